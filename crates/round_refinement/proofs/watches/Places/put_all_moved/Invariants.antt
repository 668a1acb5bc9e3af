use Rattle.std.proofs.Common.{take}
use Rattle.round_refinement.specs.Watches.{PutsMoved}
use Rattle.round_refinement.proofs.watches.Places.put_all_moved.Given as goal

abbrev pub invariant-loop-q : goal.invariant-loop-q
invariant-loop-q g l = PutsMoved (g.G.Digraph.edge l.g) l.block l.watched (take l.q-index l.moved) l.initial.self l.self
