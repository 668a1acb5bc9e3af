use Rattle.std.specs.FinSet as set
use Rattle.graph_update.specs.StagedChanges.{LosesEdgesAt}
use Rattle.graph_update.proofs.staging.drop_children.Given as goal

abbrev pub invariant-children : goal.invariant-children
invariant-children g l = LosesEdgesAt l.node l.fn.graph l.graph

abbrev pub decreases-children : goal.decreases-children
decreases-children g l = set.len l.graph.graph.edges
