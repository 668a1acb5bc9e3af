use Rattle.key_table.specs.NumberedKeys.{AreDistinct}
use Rattle.graph_spec.specs.Members.{at}
use Rattle.round_refinement.specs.NeighbourSides.{is_neighbour}
use Rattle.round_refinement.proofs.NumberedNodes.{NumberedBelow}
use Rattle.round_refinement.proofs.refining.refine.Given as goal

abbrev pub invariant-loop-n : goal.invariant-loop-n
invariant-loop-n g l = record {
  numbered : NumberedBelow (at l.own) l.base (is_neighbour l.side (g.G.Digraph.edge l.g)) l.n l.keys l.next.items;
  distinct : AreDistinct l.keys;
}
