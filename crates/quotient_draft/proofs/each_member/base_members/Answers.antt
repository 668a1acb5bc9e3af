use Rattle.std.proofs.Common.{sym, ◌∙◌}
use Rattle.quotient_draft.proofs.ShownMembers.{lists_no_members}
use Rattle.quotient_draft.proofs.each_member.base_members.Goals as goal

pub returns : goal.returns
returns c = lists_no_members c.args.base.now.blocks.block_of c.args.b (λ n e. sym c.if-is_block.false ∙ c.is_block.ensures.live n e)
