use Rattle.std.proofs.Common.{◌≡◌, ◌∙◌, ap, Err, refl, sym, subst, true≢false, take}
use Rattle.path_query.specs.Labels.{IsPlainLabel}
use Rattle.path_query.proofs.LabelBytes.{plain_utf8}
use Rattle.path_query.proofs.LabelLaws.{name_end}
use Rattle.path_query.proofs.labels.read_name.Goals as goal

pub returns-then-not-is_plain_label-clause-only : goal.returns-then-not-is_plain_label-clause-only
returns-then-not-is_plain_label-clause-only c n le l ends =
    let same : c.name_len-len.result ≡ n = c.name_len-len.ensures.count ∙ name_end c.args.text.now n le l.0 ends in
    let word = c.split_at.ensures.front ∙ ap (λ i. take i c.args.text.now) same in
    true≢false (sym (c.if-not-is_plain_label.ensures.1 (subst IsPlainLabel (sym word) l)))

pub unreachable-requires : goal.unreachable-requires
unreachable-requires c = c.in-Err-NotUtf8.ensures.not_utf8.0 (ap Err c.in-Err-NotUtf8.field-0-is) (plain_utf8 _ (c.if-not-is_plain_label.ensures.0 refl))

pub returns-in-Ok-clause-only : goal.returns-in-Ok-clause-only
returns-in-Ok-clause-only c n le l ends =
    let same : c.name_len-len.result ≡ n = c.name_len-len.ensures.count ∙ name_end c.args.text.now n le l.0 ends in
    (c.in-Ok.ensures.ok ∙ c.split_at.ensures.front ∙ ap (λ i. take i c.args.text.now) same, same)
