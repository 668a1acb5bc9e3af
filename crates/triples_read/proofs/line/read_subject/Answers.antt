use Rattle.std.proofs.Common.{◌≡◌, ◌∙◌, sym, subst, inl, inr}
use Rattle.std.specs.Prelude.{IfOk, IsSomeAnd}
use Rattle.std.proofs.Math.Utf8.{encodes}
use Rattle.triples_read.specs.declared.term.Term.{Term}
use Rattle.triples_read.proofs.Basics.{no_both}
use Rattle.triples_read.proofs.LineLaws.{subject-stands}
use Rattle.triples_read.proofs.line.read_subject.Goals as goal

pub returns-then-starts_with-clause-whole : goal.returns-then-starts_with-clause-whole
returns-then-starts_with-clause-whole c s r t is spelled ends =
    elim (subject-stands c.args.text.now s r t is spelled) [
      | inl (begins, iri, same, named) ↦ subst (λ (u : Term). IfOk c.read_iri_term.result (λ found. IsSomeAnd found (λ f. (f.0 ≡ u) × (f.1.now ≡ encodes r)))) (sym same) (c.read_iri_term.ensures.whole s r iri is named)
      | inr (begins, label, same, named) ↦ absurd (no_both _ (sym c.starts_with.ensures ∙ c.if-starts_with.true) begins)
    ]

pub returns-clause-whole : goal.returns-clause-whole
returns-clause-whole c s r t is spelled ends =
    elim (subject-stands c.args.text.now s r t is spelled) [
      | inl (begins, iri, same, named) ↦ absurd (no_both _ begins (sym c.starts_with.ensures ∙ c.if-starts_with.false))
      | inr (begins, label, same, named) ↦ subst (λ (u : Term). IfOk c.read_blank_node.result (λ found. IsSomeAnd found (λ f. (f.0 ≡ u) × (f.1.now ≡ encodes r)))) (sym same) (c.read_blank_node.ensures.whole s r label is named ends)
    ]
