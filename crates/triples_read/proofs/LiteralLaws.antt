-- Literals at the front.
use Rattle.std.proofs.Common.{◌≡◌, ℕ, List, [], ◌∷◌, ◌++◌, true, false, refl, sym, ◌∙◌, ap, subst, arith, ◌⊎◌, inl, inr, append_assoc, Option, Some, None}
use Rattle.std.specs.List.{flat_map}
use Rattle.std.proofs.Math.Utf8.{scalars, encodes}
use Rattle.std.proofs.lemmas.Str.{encode_ascii}
use Rattle.triples_read.specs.Terminals.{Blanks, LANGTAG}
use Rattle.triples_read.specs.ByteReaders.{past_blanks, starts_with}
use Rattle.triples_read.specs.Lines.{IsIri, Suffix, IsLiteral, IsObject, xsd_string, lang_string}
use Rattle.triples_read.specs.SpelledPrefixes.{Prefix, IsText, EndsTag}
use Rattle.triples_read.specs.LineRests.{IsDatatype, AfterObject}
use Rattle.triples_read.specs.Quotes.{IsQuoted}
use Rattle.triples_read.specs.declared.quoted.Quote.TheVariants.{Double}
use Rattle.triples_read.specs.declared.term.Term.TheVariants.{Literal}
use Rattle.triples_read.proofs.Basics.{cons-tail, scalars-right}
use Rattle.triples_read.proofs.OpeningQuotes.{quoted-split, quoted-join, in_quotes}
use Rattle.triples_read.proofs.BlankLaws.{skip-whole}
use Rattle.triples_read.proofs.PrefixLaws.{first-byte, behind-byte, Starts, skip-to}
use Rattle.triples_read.proofs.Follow.{tag-ends}

pub carets_bytes : (v : List ℕ) → encodes (94 ∷ 94 ∷ v) ≡ 94 ∷ 94 ∷ encodes v
carets_bytes v = rw (encode_ascii 94 (omega arith)) refl

pub carets-text : (b after cs : List ℕ) → b ≡ 94 ∷ 94 ∷ after → IsText b cs → (r : List ℕ) × (cs ≡ 94 ∷ 94 ∷ r) × IsText after r
carets-text b after cs eq is =
    let (one, first, text) = behind-byte 94 b (94 ∷ after) cs (omega arith) eq is in
    let (two, second, text2) = behind-byte 94 (94 ∷ after) after one (omega arith) refl text in
    (two, first ∙ ap (λ (z : List ℕ). 94 ∷ z) second, text2)

pub datatype-prefix : (cs cs2 gap cs3 rest iri : List ℕ) → cs ≡ 94 ∷ 94 ∷ cs2 → cs2 ≡ gap ++ cs3 → Blanks gap → Prefix (λ s. IsIri s iri) cs3 rest → Prefix (λ s. IsDatatype s iri) cs rest
datatype-prefix cs cs2 gap cs3 rest iri first second blanks (name, r, parts, text, spelled) = (
  94 ∷ 94 ∷ (gap ++ name),
  r,
  first ∙ ap (λ (z : List ℕ). 94 ∷ 94 ∷ z) (second ∙ ap (λ (z : List ℕ). gap ++ z) parts ∙ sym (append_assoc gap name r)),
  text,
  (gap, name, refl, blanks, spelled),
)

pub iri-starts : (s iri : List ℕ) → IsIri s iri → Starts s
iri-starts s iri (v, (body, sp, m), is) = (60, body ++ 62 ∷ [], sp, omega arith, refl)

pub datatype-stands : (b after s r datatype : List ℕ) → b ≡ 94 ∷ 94 ∷ after → IsText b (s ++ r) → IsDatatype s datatype → (name : List ℕ) × IsIri name datatype × IsText (past_blanks after) (name ++ r)
datatype-stands b after s r datatype eq is (gap, name, sp, blanks, spelled) =
    let (behind, first, text) = carets-text b after (s ++ r) eq is in
    let parts : behind ≡ gap ++ (name ++ r) = cons-tail (cons-tail (sym first ∙ ap (λ (z : List ℕ). z ++ r) sp)) ∙ append_assoc gap name r in
    (name, spelled, skip-to after behind gap name r text parts blanks (iri-starts name datatype spelled))

abbrev pub IsPlain : List ℕ → List ℕ → List ℕ → Option (List ℕ) → Type 0
IsPlain bytes r datatype tag = (datatype ≡ xsd_string) × (tag ≡ None) × (starts_with 94 (past_blanks bytes) ≡ false) × (starts_with 64 (past_blanks bytes) ≡ false) × (bytes ≡ encodes r)

abbrev pub IsTyped : List ℕ → List ℕ → List ℕ → Option (List ℕ) → Type 0
IsTyped bytes r datatype tag = (u : List ℕ) × IsDatatype u datatype × (tag ≡ None) × IsText (past_blanks bytes) (u ++ r) × (starts_with 94 (past_blanks bytes) ≡ true)

abbrev pub IsTagged : List ℕ → List ℕ → List ℕ → Option (List ℕ) → Type 0
IsTagged bytes r datatype tag = (u : List ℕ) × (v : List ℕ) × LANGTAG (64 ∷ u) v × (tag ≡ Some v) × (datatype ≡ lang_string) × (past_blanks bytes ≡ 64 ∷ encodes (u ++ r)) × (scalars (u ++ r) ≡ true) × EndsTag (encodes r)

pub suffix-stands : (bytes s r datatype : List ℕ) (tag : Option (List ℕ)) → IsText bytes (s ++ r) → Suffix s datatype tag → AfterObject r → IsPlain bytes r datatype tag ⊎ (IsTyped bytes r datatype tag ⊎ IsTagged bytes r datatype tag)
suffix-stands bytes s r datatype None is (inl (none, plain)) (gap, after, comment, parts, blanks, more, rest) =
    let here : s ++ r ≡ r = ap (λ (z : List ℕ). z ++ r) none in
    let skipped = skip-whole bytes gap 46 (after ++ comment) (is.0 ∙ ap encodes (here ∙ parts)) blanks (omega arith) refl in
    let dot = first-byte 46 (past_blanks bytes) (after ++ comment) (omega arith) skipped in
    inl (plain, refl, ap (starts_with 94) dot, ap (starts_with 64) dot, is.0 ∙ ap encodes here)
suffix-stands bytes s r datatype None is (inr (gap, after, name, sp, before, blanks, spelled)) over =
    let u : List ℕ = 94 ∷ 94 ∷ (after ++ name) in
    let parts : s ++ r ≡ gap ++ (u ++ r) = ap (λ (z : List ℕ). z ++ r) sp ∙ append_assoc gap u r in
    let text = skip-to bytes (s ++ r) gap u r is parts before (94, 94 ∷ (after ++ name), refl, omega arith, refl) in
    inr (inl (u, (after, name, refl, blanks, spelled), refl, text, ap (starts_with 94) (text.0 ∙ carets_bytes ((after ++ name) ++ r))))
suffix-stands bytes s r datatype (Some tag) is (gap, name, sp, before, (main, subs, first, others, named, lower), kind) over =
    let u : List ℕ = main ++ flat_map (λ (sub : List ℕ). 45 ∷ sub) subs in
    let parts : s ++ r ≡ gap ++ (name ++ r) = ap (λ (z : List ℕ). z ++ r) sp ∙ append_assoc gap name r in
    let text = skip-to bytes (s ++ r) gap name r is parts before (64, u, named, omega arith, refl) in
    let begin : name ++ r ≡ 64 ∷ (u ++ r) = ap (λ (z : List ℕ). z ++ r) named in
    inr (inr (
      u,
      tag,
      subst (λ (z : List ℕ). LANGTAG z tag) named (main, subs, first, others, named, lower),
      refl,
      kind,
      first-byte 64 (past_blanks bytes) (u ++ r) (omega arith) (text.0 ∙ ap encodes begin),
      scalars-right (64 ∷ []) (u ++ r) (ap scalars (sym begin) ∙ text.1),
      tag-ends r over,
    ))

pub suffix-typed : (cs gap cs2 rest datatype : List ℕ) → cs ≡ gap ++ cs2 → Blanks gap → Prefix (λ s. IsDatatype s datatype) cs2 rest → Prefix (λ s. Suffix s datatype None) cs rest
suffix-typed cs gap cs2 rest datatype first before (u, r, parts, text, (after, name, sp, blanks, spelled)) = (
  gap ++ u,
  r,
  first ∙ ap (λ (z : List ℕ). gap ++ z) parts ∙ sym (append_assoc gap u r),
  text,
  inr (gap, after, name, ap (λ (z : List ℕ). gap ++ z) sp, before, blanks, spelled),
)

pub suffix-tagged : (cs gap cs2 cs3 rest tag : List ℕ) → cs ≡ gap ++ cs2 → Blanks gap → cs2 ≡ 64 ∷ cs3 → Prefix (λ s. LANGTAG (64 ∷ s) tag) cs3 rest → Prefix (λ s. Suffix s lang_string (Some tag)) cs rest
suffix-tagged cs gap cs2 cs3 rest tag first before second (u, r, parts, text, langtag) = (
  gap ++ (64 ∷ u),
  r,
  first ∙ ap (λ (z : List ℕ). gap ++ z) (second ∙ ap (λ (z : List ℕ). 64 ∷ z) parts) ∙ sym (append_assoc gap (64 ∷ u) r),
  text,
  (gap, 64 ∷ u, refl, before, langtag, refl),
)

pub literal-found : (bytes cs v text behind datatype : List ℕ) (tag : Option (List ℕ)) (rest : List ℕ) → IsText bytes cs → text ≡ encodes v → IsQuoted Double bytes v behind → ((r : List ℕ) → IsText behind r → Prefix (λ s. Suffix s datatype tag) r rest) → Prefix (λ s. IsObject s (Literal text datatype tag)) cs rest
literal-found bytes cs v text behind datatype tag rest is text_is quoted next =
    let (body, r, parts, left, m) = quoted-split Double bytes cs v behind is.0 quoted in
    let (u, r2, split, text2, suffix) = next r (left, scalars-right (in_quotes Double body) r (sym (ap scalars parts) ∙ is.1)) in (
      in_quotes Double body ++ u,
      r2,
      parts ∙ ap (λ (z : List ℕ). in_quotes Double body ++ z) split ∙ sym (append_assoc (in_quotes Double body) u r2),
      text2,
      (in_quotes Double body, u, v, refl, (body, refl, m), text_is, suffix),
    )

pub literal-stands : (bytes s r text datatype : List ℕ) (tag : Option (List ℕ)) → IsText bytes (s ++ r) → IsLiteral s text datatype tag → (v : List ℕ) × (u : List ℕ) × (text ≡ encodes v) × IsQuoted Double bytes v (encodes (u ++ r)) × Suffix u datatype tag × (scalars (u ++ r) ≡ true)
literal-stands bytes s r text datatype tag is (quoted, u, v, sp, (body, qp, m), text_is, suffix) =
    let parts : s ++ r ≡ in_quotes Double body ++ (u ++ r) =
    ap (λ (z : List ℕ). z ++ r) (sp ∙ ap (λ (z : List ℕ). z ++ u) qp) ∙ append_assoc (in_quotes Double body) u r in
    (v, u, text_is, quoted-join Double bytes body (u ++ r) v (is.0 ∙ ap encodes parts) m, suffix, scalars-right (in_quotes Double body) (u ++ r) (sym (ap scalars parts) ∙ is.1))
