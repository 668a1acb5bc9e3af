use Rattle.std.proofs.Common.{take}
use Rattle.std.specs.Map.{keys_of}
use Rattle.quotient_draft.specs.Retired.{IsRetired}
use Rattle.quotient_draft.proofs.added.Added.retire_in.Given as goal

abbrev pub invariant-loop-i : goal.invariant-loop-i
invariant-loop-i l = IsRetired (take l.i (keys_of l.self-inside.blocks.entries)) l.initial.base l.base
