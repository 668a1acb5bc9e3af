use Rattle.std.proofs.Common.{◌∙◌, sym, true≢false}
use Rattle.path_query.proofs.LabelLaws.{plain, bracketed, kind, plain_opens, iri_opens}
use Rattle.path_query.proofs.labels.read_prefix.Goals as goal

pub returns-then-opens_iri-clause-only : goal.returns-then-opens_iri-clause-only
returns-then-opens_iri-clause-only c n t h ends =
    elim (kind c.args.text.now n t h) [
      | plain l e ↦ absurd (plain_opens c.args.text.now n (sym (c.if-opens_iri.ensures)) l)
      | bracketed iri f e ↦ (rw e (c.read_iri.ensures.only n iri f))
    ]

pub returns-else-opens_iri-clause-only : goal.returns-else-opens_iri-clause-only
returns-else-opens_iri-clause-only c n t h ends =
    elim (kind c.args.text.now n t h) [
      | plain l e ↦ (rw e (c.read_name.ensures.only n h.0 l ends))
      | bracketed iri f e ↦ absurd (true≢false (sym (iri_opens c.args.text.now n iri f) ∙ sym c.if-opens_iri.ensures))
    ]
