use Rattle.std.proofs.Common.{take}
use Rattle.one_merge.specs.MergeTests.{shown_adjacent}
use Rattle.one_merge.proofs.MergePairLaws.{IsOther}
use Rattle.one_merge.proofs.finding.other_among.Given as goal

abbrev pub invariant-loop-i : goal.invariant-loop-i
invariant-loop-i l = IsOther (λ x. shown_adjacent l.base l.draft x l.a) l.a l.fn.first (take l.i l.blocks) l.found
