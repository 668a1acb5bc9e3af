use Rattle.std.proofs.Common.{ap, is_some, ◌∙◌}
use Rattle.one_merge.proofs.parentless.ParentlessBlocks.note_base.Goals as goal

pub returns : goal.returns
returns c = record {
  covers = record { each = λ b label h parentless_block. c.in_ok-note_all.ensures b label (c.live.ensures.blocks.members b ∙ ap is_some h) h parentless_block };
}
