use Rattle.std.proofs.Common.{sym, ◌∙◌}
use Rattle.px_base.proofs.Windows.{end-sliced, stopped-sliced, end-none, end-one, end-more}
use Rattle.px_base.proofs.window.has_end.Goals as goal

pub returns-in-empty : goal.returns-in-empty
returns-in-empty c = end-none _ c.in-empty.len_below ∙ sym (end-sliced c.args.bytes.now c.plain_len.result c.plain_len.ensures.plain)

pub returns-in-len1 : goal.returns-in-len1
returns-in-len1 c = end-one _ c.in-len1.len_at_least c.in-len1.len_below ∙ sym (end-sliced c.args.bytes.now c.plain_len.result c.plain_len.ensures.plain)

pub returns-in_default : goal.returns-in_default
returns-in_default c =
    end-more _ c.in_default.len_at_least (stopped-sliced c.args.bytes.now c.plain_len.result c.plain_len.ensures.stopped)
    ∙ sym (end-sliced c.args.bytes.now c.plain_len.result c.plain_len.ensures.plain)
