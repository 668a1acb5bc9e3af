use Rattle.std.proofs.Common.{◌≡◌, take}
use Rattle.std.specs.List.{filter}
use Rattle.quotient_draft.specs.Drafts.{shown_blocks}
use Rattle.one_split.specs.Counted.{shares_block}
use Rattle.one_split.proofs.shared_blocks.in_shared_blocks.Given as goal

abbrev pub invariant-loop-n : goal.invariant-loop-n
invariant-loop-n l = l.list.items ≡ filter (shares_block (shown_blocks l.base l.draft)) (take l.n-index l.nodes)
