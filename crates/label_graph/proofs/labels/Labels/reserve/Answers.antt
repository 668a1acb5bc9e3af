use Rattle.std.proofs.Common.{◌∙◌, ap, sym, ◌++◌, ◌∷◌, []}
use Rattle.std.specs.Prelude.{slice_get, bytes_eq, if◌then◌else◌}
use Rattle.label_graph.specs.LabelTable.{entries}
use Rattle.label_graph.proofs.Positions.{position-none, present, text-at}
use Rattle.label_graph.proofs.Tables.{ahead-is, ahead-number}
use Rattle.label_graph.proofs.labels.Labels.reserve.Goals as goal

pub put_ahead-requires : goal.put_ahead-requires
put_ahead-requires c =
    rw c.recall.ensures.same (record { unseen = position-none (bytes_eq c.args.text.now) (entries c.args.self.now) (sym c.in-None.ensures.place) })

pub returns-in-Some-clause-ahead : goal.returns-in-Some-clause-ahead
returns-in-Some-clause-ahead c =
    let t = c.args.text.now in
    let s = c.args.self.now in
    c.recall.ensures.same
    ∙ ap (λ b. record { texts = s.texts; ahead = if b then s.ahead else (s.ahead ++ t ∷ []) }) (sym (present (bytes_eq t) (entries s) c.in-Some.l (sym c.in-Some.ensures.place)))

pub returns-in-Some-clause-number : goal.returns-in-Some-clause-number
returns-in-Some-clause-number c =
    ap (λ s. slice_get (entries s) c.in-Some.l) c.recall.ensures.same ∙ text-at c.args.text.now (entries c.args.self.now) c.in-Some.l (sym c.in-Some.ensures.place)

pub returns-in-None-clause-ahead : goal.returns-in-None-clause-ahead
returns-in-None-clause-ahead c =
    ahead-is c.put_ahead.result c.recall.new.self c.args.self.now c.put_ahead.new.self c.args.text.now c.recall.ensures.same
    (position-none (bytes_eq c.args.text.now) (entries c.args.self.now) (sym c.in-None.ensures.place)) c.put_ahead.ensures.ok

pub returns-in-None-clause-number : goal.returns-in-None-clause-number
returns-in-None-clause-number c =
    ahead-number c.put_ahead.result c.recall.new.self c.put_ahead.new.self c.args.text.now c.put_ahead.ensures.ok c.put_ahead.ensures.number
