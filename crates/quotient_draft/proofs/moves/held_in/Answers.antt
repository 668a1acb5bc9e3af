use Rattle.std.proofs.Common.{◌∙◌, sym}
use Rattle.quotient_draft.proofs.ShownCounts.{none_held}
use Rattle.quotient_draft.proofs.moves.held_in.Goals as goal

pub returns-else-is_block : goal.returns-else-is_block
returns-else-is_block c = sym (none_held c.args.base.now.blocks.block_of c.args.b (λ n e. sym c.if-is_block.false ∙ c.is_block.ensures.live n e))
