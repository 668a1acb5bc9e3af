use Rattle.std.proofs.Common.{take}
use Rattle.round_refinement.proofs.WatchLaws.{NoneIn}
use Rattle.round_refinement.proofs.watches.find_in.Given as goal

abbrev pub invariant-loop-i : goal.invariant-loop-i
invariant-loop-i l = NoneIn l.block l.b (take l.i l.nodes)
