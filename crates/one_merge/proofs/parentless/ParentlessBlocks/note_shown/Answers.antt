use Rattle.std.proofs.Common.{rules}
use Rattle.one_merge.proofs.ParentlessLaws.{no_label, no_member, label_settled}
use Rattle.one_merge.proofs.parentless.ParentlessBlocks.note_shown.Goals as goal

pub returns-then-not-is_block-clause-noted : goal.returns-then-not-is_block-clause-noted
returns-then-not-is_block-clause-noted c = λ label h parentless_block. absurd (no_label c.args.base.now c.args.draft.now c.args.b label (search rules) h)

pub returns-then-member_count-eq0-clause-noted : goal.returns-then-member_count-eq0-clause-noted
returns-then-member_count-eq0-clause-noted c = λ label h parentless_block. absurd (no_member c.args.base.now c.args.draft.now c.args.b label (search rules) h)

pub returns-clause-noted : goal.returns-clause-noted
returns-clause-noted c = λ label h parentless_block. label_settled c.args.base.now c.args.draft.now c.note.new.self c.args.b c.label.result label c.label.ensures c.in_ok-note.ensures.noted h
