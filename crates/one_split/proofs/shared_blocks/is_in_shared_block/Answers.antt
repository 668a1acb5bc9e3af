use Rattle.quotient_draft.specs.Drafts.{shown_blocks}
use Rattle.one_split.proofs.SharedBlockLaws.{shared_block_at}
use Rattle.one_split.proofs.shared_blocks.is_in_shared_block.Goals as goal

pub returns : goal.returns
returns c = shared_block_at (shown_blocks c.args.base.now c.args.draft.now) c.args.n c.own_block-own.result c.member_count.result c.own_block-own.ensures c.member_count.ensures.count
