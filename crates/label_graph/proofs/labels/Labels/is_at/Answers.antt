use Rattle.std.proofs.Common.{◌≡◌, ◌∙◌, ap, sym, arith, get_or, length, refl}
use Rattle.std.specs.Prelude.{Some, bytes_eq, position}
use Rattle.std.proofs.lemmas.Option.{slice_get_read}
use Rattle.std.proofs.lemmas.Slice.Eq.{bytes_eq-Decides}
use Rattle.label_graph.proofs.Positions.{position-at}
use Rattle.label_graph.proofs.Tables.{entries-of}
use Rattle.label_graph.proofs.labels.Labels.is_at.Goals as goal

pub returns-then-l-len : goal.returns-then-l-len
returns-then-l-len c = λ h.
    let s = c.self.inside in
    let l = c.args.l in
    let x = c.index-as_slice-l.result in
    let read = slice_get_read s.table.keys (length s.table.keys) l x refl (omega (arith, c.if-l-len.true, c.len.ensures.len)) (c.index-as_slice-l.is ∙ ap (λ ks. get_or ks l x) c.as_slice.ensures.keys) in
    let same : x ≡ c.args.t.now = (bytes_eq-Decides x c.args.t.now).0 (sym c.eq.ensures ∙ h) in
    rw (← c.self.view_is)
    (ap (position (bytes_eq c.args.t.now)) (entries-of s.table.keys s.effective) ∙ position-at s.table.keys l c.args.t.now c.self.invariant.once (read ∙ ap Some same))
