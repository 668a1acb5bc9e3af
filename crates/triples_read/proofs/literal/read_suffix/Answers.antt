use Rattle.std.proofs.Common.{◌≡◌, ◌∙◌, sym, ap, subst, List, ℕ, ◌++◌, arith, inl, inr, Bool, Some, true, false}
use Rattle.triples_read.specs.ByteReaders.{past_blanks, starts_with}
use Rattle.triples_read.specs.Lines.{Suffix}
use Rattle.triples_read.specs.SpelledPrefixes.{Prefix, IsText}
use Rattle.triples_read.proofs.Basics.{no_both, cons-tail}
use Rattle.triples_read.proofs.BlankLaws.{skip-found}
use Rattle.triples_read.proofs.PrefixLaws.{behind-byte}
use Rattle.triples_read.proofs.LiteralLaws.{suffix-stands, suffix-typed, suffix-tagged}
use Rattle.triples_read.proofs.literal.read_suffix.Goals as goal

-- what is known of the first byte behind the blanks
known : (n : ℕ) (bytes after : List ℕ) (b d : Bool) → after ≡ past_blanks bytes → b ≡ starts_with n after → b ≡ d → starts_with n (past_blanks bytes) ≡ d
known n bytes after b d skipped is test = ap (starts_with n) (sym skipped) ∙ sym is ∙ test

pub returns-in_default-clause-whole : goal.returns-in_default-clause-whole
returns-in_default-clause-whole c s r datatype tag is spelled over =
    let caret = known 94 c.args.text.now c.skip_blanks-after.result.now _ true c.skip_blanks-after.ensures c.starts_with.ensures c.if-starts_with.true in
    elim (suffix-stands c.args.text.now s r datatype tag is spelled over) [
      | inl (kind, none, no_caret, no_at, same) ↦ no_both _ caret no_caret
      | inr (inl (u, named, none, text, begins)) ↦ (
          let whole = rw c.in_default.is at c.in_ok-datatype.ensures.whole in
          whole u r datatype (subst (λ (z : List ℕ). IsText z (u ++ r)) (sym c.skip_blanks-after.ensures) text) named)
      | inr (inr (u, v, langtag, some, kind, at, ok, ends)) ↦ no_both _ caret (ap (starts_with 94) at)
    ]

pub returns-then-starts_with-clause-found : goal.returns-then-starts_with-clause-found
returns-then-starts_with-clause-found c cs is =
    let (gap, cs2, split, text, blanks) = skip-found c.args.text.now cs is in
    let found = rw c.in-Some.is at c.in_ok-datatype.ensures.found in
    suffix-typed cs gap cs2 c.in-Some.rest.now c.in-Some.datatype split blanks (found cs2 (subst (λ (z : List ℕ). IsText z cs2) (sym c.skip_blanks-after.ensures) text))

pub returns-then-starts_with-clause-whole : goal.returns-then-starts_with-clause-whole
returns-then-starts_with-clause-whole c s r datatype tag is spelled over =
    let caret = known 94 c.args.text.now c.skip_blanks-after.result.now _ true c.skip_blanks-after.ensures c.starts_with.ensures c.if-starts_with.true in
    elim (suffix-stands c.args.text.now s r datatype tag is spelled over) [
      | inl (kind, none, no_caret, no_at, same) ↦ absurd (no_both _ caret no_caret)
      | inr (inl (u, named, none, text, begins)) ↦ (
          let whole = rw c.in-Some.is at c.in_ok-datatype.ensures.whole in
          let both = whole u r datatype (subst (λ (z : List ℕ). IsText z (u ++ r)) (sym c.skip_blanks-after.ensures) text) named in
          (both.0, sym none, both.1))
      | inr (inr (u, v, langtag, some, kind, at, ok, ends)) ↦ absurd (no_both _ caret (ap (starts_with 94) at))
    ]

pub returns-in_default-past_byte-clause-whole : goal.returns-in_default-past_byte-clause-whole
returns-in_default-past_byte-clause-whole c s r datatype tag is spelled over =
    let no_caret = known 94 c.args.text.now c.skip_blanks-after.result.now _ false c.skip_blanks-after.ensures c.starts_with.ensures c.if-starts_with.false in
    let no_at = ap (starts_with 64) (sym c.skip_blanks-after.ensures) ∙ c.in_default-past_byte.ensures in
    elim (suffix-stands c.args.text.now s r datatype tag is spelled over) [
      | inl (kind, none, no_caret', no_at', same) ↦ (c.in_ok-xsd_string.ensures ∙ sym kind, sym none, same)
      | inr (inl (u, named, none, text, begins)) ↦ absurd (no_both _ begins no_caret)
      | inr (inr (u, v, langtag, some, kind, at, ok, ends)) ↦ absurd (no_both _ (ap (starts_with 64) at) no_at)
    ]

pub returns-in_default-2-clause-whole : goal.returns-in_default-2-clause-whole
returns-in_default-2-clause-whole c s r datatype tag is spelled over =
    let no_caret = known 94 c.args.text.now c.skip_blanks-after.result.now _ false c.skip_blanks-after.ensures c.starts_with.ensures c.if-starts_with.false in
    let prefix = sym c.skip_blanks-after.ensures ∙ c.in-Some-past_byte.ensures in
    elim (suffix-stands c.args.text.now s r datatype tag is spelled over) [
      | inl (kind, none, no_caret', no_at', same) ↦ no_both _ (ap (starts_with 64) prefix) no_at'
      | inr (inl (u, named, none, text, begins)) ↦ no_both _ begins no_caret
      | inr (inr (u, v, langtag, some, kind, at, ok, ends)) ↦ (
          let whole = rw c.in_default-2.is at c.in_ok-tag.ensures.whole in
          whole u r v (cons-tail (sym prefix ∙ at), ok) langtag ends)
    ]

pub returns-clause-found : goal.returns-clause-found
returns-clause-found c cs is =
    let (gap, cs2, split, text, blanks) = skip-found c.args.text.now cs is in
    let (cs3, parts, behind) = behind-byte 64 (past_blanks c.args.text.now) c.in-Some-past_byte.behind.now cs2 (omega arith) (sym c.skip_blanks-after.ensures ∙ c.in-Some-past_byte.ensures) text in
    let found = rw c.in-Some-2.is at c.in_ok-tag.ensures.found in
    let made = suffix-tagged cs gap cs2 cs3 c.in-Some-2.rest.now c.in-Some-2.tag split blanks parts (found cs3 behind) in
    subst (λ (z : List ℕ). Prefix (λ s. Suffix s z (Some c.in-Some-2.tag)) cs c.in-Some-2.rest.now) (sym c.in_ok-lang_string.ensures) made

pub returns-clause-whole : goal.returns-clause-whole
returns-clause-whole c s r datatype tag is spelled over =
    let no_caret = known 94 c.args.text.now c.skip_blanks-after.result.now _ false c.skip_blanks-after.ensures c.starts_with.ensures c.if-starts_with.false in
    let prefix = sym c.skip_blanks-after.ensures ∙ c.in-Some-past_byte.ensures in
    elim (suffix-stands c.args.text.now s r datatype tag is spelled over) [
      | inl (kind, none, no_caret', no_at', same) ↦ absurd (no_both _ (ap (starts_with 64) prefix) no_at')
      | inr (inl (u, named, none, text, begins)) ↦ absurd (no_both _ begins no_caret)
      | inr (inr (u, v, langtag, some, kind, at, ok, ends)) ↦ (
          let whole = rw c.in-Some-2.is at c.in_ok-tag.ensures.whole in
          let both = whole u r v (cons-tail (sym prefix ∙ at), ok) langtag ends in
          (c.in_ok-lang_string.ensures ∙ sym kind, ap Some both.0 ∙ sym some, both.1))
    ]
