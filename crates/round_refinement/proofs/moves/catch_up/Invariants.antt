use Rattle.std.proofs.Common.{take}
use Rattle.round_refinement.specs.Active.{IsCaughtUp}
use Rattle.round_refinement.proofs.moves.catch_up.Given as goal

abbrev pub invariant-loop-n : goal.invariant-loop-n
invariant-loop-n l = IsCaughtUp l.initial.before l.block (take l.n-index l.moved) l.before
