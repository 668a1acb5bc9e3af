use Rattle.std.proofs.Common.{◌≡◌, ◌∙◌, sym, subst, inl, inr}
use Rattle.std.specs.Prelude.{IfOk, IsSomeAnd}
use Rattle.std.proofs.Math.Utf8.{encodes}
use Rattle.triples_read.specs.declared.term.Term.{Term}
use Rattle.triples_read.specs.SpelledPrefixes.{Prefix}
use Rattle.triples_read.specs.Lines.{IsSubject, IsObject}
use Rattle.triples_read.proofs.Basics.{no_both}
use Rattle.triples_read.proofs.PrefixLaws.{ok-some-map}
use Rattle.triples_read.proofs.LineLaws.{object-stands, subject-object}
use Rattle.triples_read.proofs.Follow.{label-ends}
use Rattle.triples_read.proofs.line.read_object.Goals as goal

pub returns-then-starts_with-clause-whole : goal.returns-then-starts_with-clause-whole
returns-then-starts_with-clause-whole c s r t is spelled over =
    elim (object-stands c.args.text.now s r t is spelled) [
      | inl (begins, text, datatype, tag, same, named) ↦ subst (λ (u : Term). IfOk c.read_literal.result (λ found. IsSomeAnd found (λ f. (f.0 ≡ u) × (f.1.now ≡ encodes r)))) (sym same) (c.read_literal.ensures.whole s r text datatype tag is named over)
      | inr (begins, named) ↦ absurd (no_both _ (sym c.starts_with.ensures ∙ c.if-starts_with.true) begins)
    ]

pub returns-clause-found : goal.returns-clause-found
returns-clause-found c cs is =
    ok-some-map (λ f. Prefix (λ s. IsSubject s f.0) cs f.1.now) (λ f. Prefix (λ s. IsObject s f.0) cs f.1.now)
    (λ f prefix. (prefix.0, prefix.1, prefix.2, prefix.3, subject-object prefix.0 f.0 prefix.4)) c.read_subject.result (c.read_subject.ensures.found cs is)

pub returns-clause-whole : goal.returns-clause-whole
returns-clause-whole c s r t is spelled over =
    elim (object-stands c.args.text.now s r t is spelled) [
      | inl (begins, text, datatype, tag, same, named) ↦ absurd (no_both _ begins (sym c.starts_with.ensures ∙ c.if-starts_with.false))
      | inr (begins, named) ↦ c.read_subject.ensures.whole s r t is named (label-ends r over)
    ]
