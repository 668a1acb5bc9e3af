use Rattle.std.proofs.Common.{◌≡◌, ℕ, false}
use Rattle.std.specs.FinSet as set
use Rattle.graph_spec.specs.Graphs.{has_edge}
use Rattle.graph_update.specs.StagedChanges.{LosesEdgesAt}
use Rattle.graph_update.proofs.staging.drop_parents.Given as goal

abbrev pub invariant-parents : goal.invariant-parents
invariant-parents g l = record {
  left : LosesEdgesAt l.node l.fn.graph l.graph;
  children : (n : ℕ) → has_edge l.fn.graph.graph l.node n ≡ false → has_edge l.graph.graph l.node n ≡ false;
}

abbrev pub decreases-parents : goal.decreases-parents
decreases-parents g l = set.len l.graph.graph.edges
