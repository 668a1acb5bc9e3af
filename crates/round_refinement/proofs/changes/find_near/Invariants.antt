use Rattle.std.proofs.Common.{take}
use Rattle.round_refinement.specs.NeighbourSides.{is_neighbour}
use Rattle.round_refinement.proofs.ChangeLaws.{ListsNear}
use Rattle.round_refinement.proofs.changes.find_near.Given as goal

abbrev pub invariant-loop-q : goal.invariant-loop-q
invariant-loop-q g l = ListsNear (is_neighbour l.side (g.G.Digraph.edge l.g)) (take l.q-index l.moved) l.near
