use Rattle.std.proofs.Common.{◌≡◌, ℕ, take, count_by}
use Rattle.quotient_draft.specs.MoveTables.{counted}
use Rattle.quotient_draft.specs.Drafts.{shown_blocks}
use Rattle.one_split.specs.Counted.{is_in}
use Rattle.one_split.proofs.member_counts.count_by_block.Given as goal

abbrev pub invariant-loop-i : goal.invariant-loop-i
invariant-loop-i l = (b : ℕ) → counted l.counts.entries b ≡ count_by (is_in (shown_blocks l.base l.draft) b) (take l.i l.nodes)
