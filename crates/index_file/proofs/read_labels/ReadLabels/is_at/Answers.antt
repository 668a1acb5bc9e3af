use Rattle.std.proofs.Common.{◌∙◌, ap, arith, get_or, length, refl, Some}
use Rattle.std.proofs.lemmas.Option.{slice_get_read}
use Rattle.index_file.proofs.read_labels.ReadLabels.is_at.Goals as goal

pub returns-then-l-len : goal.returns-then-l-len
returns-then-l-len c = λ h.
    let s = c.self.inside in
    let l = c.args.l in
    let x = c.index-as_slice-l.result in
    let read = slice_get_read s.texts.keys (length s.texts.keys) l x refl (omega (arith, c.if-l-len.true, c.len.ensures.len))
    (c.index-as_slice-l.is ∙ ap (λ ks. get_or ks l x) c.as_slice.ensures.keys) in
    rw (← c.self.view_is) (read ∙ ap Some (c.is_text.ensures h))
