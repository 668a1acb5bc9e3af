use Rattle.std.proofs.Common.{take}
use Rattle.quotient_draft.specs.Retired.{IsRetired}
use Rattle.quotient_draft.proofs.retiring.retire_all.Given as goal

abbrev pub invariant-loop-b : goal.invariant-loop-b
invariant-loop-b l = IsRetired (take l.b-index l.left) l.initial.base l.base
