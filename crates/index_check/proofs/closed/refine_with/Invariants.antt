use Rattle.key_table.specs.NumberedKeys.{AreDistinct}
use Rattle.graph_spec.specs.Members.{at}
use Rattle.index_check.specs.ClosedParents.{is_closed_parent}
use Rattle.round_refinement.proofs.NumberedNodes.{NumberedBelow}
use Rattle.index_check.proofs.closed.refine_with.Given as goal

abbrev pub invariant-loop-n : goal.invariant-loop-n
invariant-loop-n g l = record {
  numbered : NumberedBelow (at l.own) l.base (is_closed_parent l.base (g.G.Digraph.edge l.g)) l.n l.keys l.next.items;
  distinct : AreDistinct l.keys;
}
