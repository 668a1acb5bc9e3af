use Rattle.std.proofs.Common.{take}
use Rattle.round_refinement.specs.Watches.{PutsBeside}
use Rattle.round_refinement.proofs.watches.Places.put_beside.Given as goal

abbrev pub invariant-loop-n : goal.invariant-loop-n
invariant-loop-n l = PutsBeside l.watched (take l.n-index l.nodes) l.side l.block l.q l.initial.self l.self
