-- A line spells at most one triple, and none where it is blank or a comment.
use Rattle.std.proofs.Common.{◌≡◌, ℕ, List, ◌∷◌, ◌++◌, refl, sym, ◌∙◌, ap, subst, map, inl, inr, Option, Some}
use Rattle.std.specs.Char.{to_ascii_lowercase}
use Rattle.std.proofs.Math.Utf8.{encodes}
use Rattle.std.proofs.lemmas.Str.{encodes_same}
use Rattle.std.proofs.lemmas.List.{append_cancel_right}
use Rattle.triples_read.specs.Terminals.{LANGTAG}
use Rattle.triples_read.specs.ByteReaders.{past_blanks, past_label, starts_with, is_over}
use Rattle.triples_read.specs.Lines.{IsIri, IsBlankNode, IsSubject, IsObject, Suffix, SpellsTriple, Empty}
use Rattle.triples_read.specs.SpelledPrefixes.{IsText, EndsLabel, EndsTag}
use Rattle.triples_read.specs.LineRests.{IsDatatype, AfterObject, AfterPredicate, AfterSubject, FromSubject}
use Rattle.triples_read.specs.declared.quoted.Quote.TheVariants.{Angle, Double}
use Rattle.triples_read.specs.declared.term.Term.{Term}
use Rattle.triples_read.specs.declared.term.Term.TheVariants.{Iri, Blank, Literal}
use Rattle.triples_read.specs.declared.term.Triple.{Triple}
use Rattle.triples_read.proofs.Basics.{no_both, cons-tail}
use Rattle.triples_read.proofs.LabelEnds.{label-whole}
use Rattle.triples_read.proofs.OpeningQuotes.{iri-whole, quoted-unique, text-rest}
use Rattle.triples_read.proofs.TagLaws.{tag-stands, some_same}
use Rattle.triples_read.proofs.LiteralLaws.{carets_bytes, datatype-stands, suffix-stands, literal-stands}
use Rattle.triples_read.proofs.Follow.{label-ends}
use Rattle.triples_read.proofs.LineLaws.{subject-stands, object-stands, last-stands, rest-stands, line-stands, line-empty, after-subject-ends}

pub iri-unique : (b s r iri s2 r2 iri2 : List ℕ) → IsText b (s ++ r) → IsText b (s2 ++ r2) → IsIri s iri → IsIri s2 iri2 → (iri ≡ iri2) × (r ≡ r2)
iri-unique b s r iri s2 r2 iri2 h h2 i i2 =
    let (v, is, quoted) = iri-whole b s r iri h.0 i in
    let (w, is2, quoted2) = iri-whole b s2 r2 iri2 h2.0 i2 in
    let both = quoted-unique Angle b v w (encodes r) (encodes r2) quoted quoted2 in
    (is ∙ ap encodes both.0 ∙ sym is2, encodes_same r r2 both.1)

label-unique : (b s r label s2 r2 label2 : List ℕ) → IsText b (s ++ r) → IsText b (s2 ++ r2) → IsBlankNode s label → IsBlankNode s2 label2 → EndsLabel r → EndsLabel r2 → (label ≡ label2) × (r ≡ r2)
label-unique b s r label s2 r2 label2 h h2 (v, (sp, (first, more, vp, ok, good, ends)), is) (w, (sp2, (first2, more2, wp, ok2, good2, ends2)), is2) over over2 =
    let same : v ++ r ≡ w ++ r2 =
    cons-tail (cons-tail (ap (λ (z : List ℕ). z ++ r) (sym sp) ∙ encodes_same (s ++ r) (s2 ++ r2) (sym h.0 ∙ h2.0) ∙ ap (λ (z : List ℕ). z ++ r2) sp2)) in
    let behind : more ++ r ≡ more2 ++ r2 = cons-tail (ap (λ (z : List ℕ). z ++ r) (sym vp) ∙ same ∙ ap (λ (z : List ℕ). z ++ r2) wp) in
    let rest : r ≡ r2 = sym (label-whole more r ends over) ∙ ap (λ (z : List ℕ). past_label z z) behind ∙ label-whole more2 r2 ends2 over2 in
    (is ∙ ap encodes (append_cancel_right v w r (same ∙ ap (λ (z : List ℕ). w ++ z) (sym rest))) ∙ sym is2, rest)

subject-unique : (b s r : List ℕ) (t : Term) (s2 r2 : List ℕ) (u : Term) → IsText b (s ++ r) → IsText b (s2 ++ r2) → IsSubject s t → IsSubject s2 u → EndsLabel r → EndsLabel r2 → (t ≡ u) × (r ≡ r2)
subject-unique b s r t s2 r2 u h h2 is is2 over over2 =
    elim (subject-stands b s r t h is) [
      | inl (begins, iri, same, named) ↦ elim (subject-stands b s2 r2 u h2 is2) [
        | inl (begins2, iri2, same2, named2) ↦ (
            let both = iri-unique b s r iri s2 r2 iri2 h h2 named named2 in
            (same ∙ ap Iri both.0 ∙ sym same2, both.1))
        | inr (begins2, label2, same2, named2) ↦ absurd (no_both _ begins begins2)
      ]
      | inr (begins, label, same, named) ↦ elim (subject-stands b s2 r2 u h2 is2) [
        | inl (begins2, iri2, same2, named2) ↦ absurd (no_both _ begins2 begins)
        | inr (begins2, label2, same2, named2) ↦ (
            let both = label-unique b s r label s2 r2 label2 h h2 named named2 over over2 in
            (same ∙ ap Blank both.0 ∙ sym same2, both.1))
      ]
    ]

datatype-unique : (b s r datatype s2 r2 datatype2 : List ℕ) → IsText b (s ++ r) → IsText b (s2 ++ r2) → IsDatatype s datatype → IsDatatype s2 datatype2 → (datatype ≡ datatype2) × (r ≡ r2)
datatype-unique b s r datatype s2 r2 datatype2 h h2 (gap, name, sp, blanks, spelled) is2 =
    let after : List ℕ = encodes ((gap ++ name) ++ r) in
    let prefix : b ≡ 94 ∷ 94 ∷ after = h.0 ∙ ap (λ (z : List ℕ). encodes (z ++ r)) sp ∙ carets_bytes ((gap ++ name) ++ r) in
    let (n, iri, text) = datatype-stands b after s r datatype prefix h (gap, name, sp, blanks, spelled) in
    let (n2, iri2, text2) = datatype-stands b after s2 r2 datatype2 prefix h2 is2 in
    iri-unique (past_blanks after) n r datatype n2 r2 datatype2 text text2 iri iri2

tag-unique : (b s r tag s2 r2 tag2 : List ℕ) → IsText b (s ++ r) → IsText b (s2 ++ r2) → LANGTAG (64 ∷ s) tag → LANGTAG (64 ∷ s2) tag2 → EndsTag (encodes r) → EndsTag (encodes r2) → (tag ≡ tag2) × (r ≡ r2)
tag-unique b s r tag s2 r2 tag2 h h2 is is2 over over2 =
    let (whole, lower, bytes) = tag-stands b s r tag h is over in
    let (whole2, lower2, bytes2) = tag-stands b s2 r2 tag2 h2 is2 over2 in
    let rest : encodes r ≡ encodes r2 = some_same (encodes r) (encodes r2) (sym whole ∙ whole2) in
    let same : s ≡ s2 = append_cancel_right s s2 (encodes r) (sym bytes ∙ bytes2 ∙ ap (λ (z : List ℕ). s2 ++ z) (sym rest)) in
    (lower ∙ ap (map to_ascii_lowercase) same ∙ sym lower2, encodes_same r r2 rest)

suffix-unique : (b s r datatype : List ℕ) (tag : Option (List ℕ)) (s2 r2 datatype2 : List ℕ) (tag2 : Option (List ℕ)) → IsText b (s ++ r) → IsText b (s2 ++ r2) → Suffix s datatype tag → Suffix s2 datatype2 tag2 → AfterObject r → AfterObject r2 → (datatype ≡ datatype2) × (tag ≡ tag2) × (r ≡ r2)
suffix-unique b s r datatype tag s2 r2 datatype2 tag2 h h2 is is2 over over2 =
    elim (suffix-stands b s r datatype tag h is over) [
      | inl (kind, none, no_caret, no_at, same) ↦ elim (suffix-stands b s2 r2 datatype2 tag2 h2 is2 over2) [
        | inl (kind2, none2, no_caret2, no_at2, same2) ↦ (kind ∙ sym kind2, none ∙ sym none2, encodes_same r r2 (sym same ∙ same2))
        | inr (inl (u2, named2, none2, text2, begins2)) ↦ absurd (no_both _ begins2 no_caret)
        | inr (inr (u2, v2, langtag2, some2, kind2, at2, ok2, ends2)) ↦ absurd (no_both _ (ap (starts_with 64) at2) no_at)
      ]
      | inr (inl (u, named, none, text, begins)) ↦ elim (suffix-stands b s2 r2 datatype2 tag2 h2 is2 over2) [
        | inl (kind2, none2, no_caret2, no_at2, same2) ↦ absurd (no_both _ begins no_caret2)
        | inr (inl (u2, named2, none2, text2, begins2)) ↦ (
            let both = datatype-unique (past_blanks b) u r datatype u2 r2 datatype2 text text2 named named2 in
            (both.0, none ∙ sym none2, both.1))
        | inr (inr (u2, v2, langtag2, some2, kind2, at2, ok2, ends2)) ↦ absurd (no_both _ begins (ap (starts_with 94) at2))
      ]
      | inr (inr (u, v, langtag, some, kind, at, ok, ends)) ↦ elim (suffix-stands b s2 r2 datatype2 tag2 h2 is2 over2) [
        | inl (kind2, none2, no_caret2, no_at2, same2) ↦ absurd (no_both _ (ap (starts_with 64) at) no_at2)
        | inr (inl (u2, named2, none2, text2, begins2)) ↦ absurd (no_both _ begins2 (ap (starts_with 94) at))
        | inr (inr (u2, v2, langtag2, some2, kind2, at2, ok2, ends2)) ↦ (
            let both = tag-unique (encodes (u ++ r)) u r v u2 r2 v2 (refl, ok) (cons-tail (sym at ∙ at2), ok2) langtag langtag2 ends ends2 in
            (kind ∙ sym kind2, some ∙ ap Some both.0 ∙ sym some2, both.1))
      ]
    ]

literal_same : (a a2 d d2 : List ℕ) (t t2 : Option (List ℕ)) → a ≡ a2 → d ≡ d2 → t ≡ t2 → Literal a d t ≡ Literal a2 d2 t2
literal_same a a2 d d2 t t2 e f g = rw (e, f, g) refl

object-unique : (b s r : List ℕ) (t : Term) (s2 r2 : List ℕ) (u : Term) → IsText b (s ++ r) → IsText b (s2 ++ r2) → IsObject s t → IsObject s2 u → AfterObject r → AfterObject r2 → (t ≡ u) × (r ≡ r2)
object-unique b s r t s2 r2 u h h2 is is2 over over2 =
    elim (object-stands b s r t h is) [
      | inl (begins, text, datatype, tag, same, named) ↦ elim (object-stands b s2 r2 u h2 is2) [
        | inl (begins2, text2, datatype2, tag2, same2, named2) ↦ (
            let (v, x, text_is, quoted, suffix, ok) = literal-stands b s r text datatype tag h named in
            let (w, x2, text_is2, quoted2, suffix2, ok2) = literal-stands b s2 r2 text2 datatype2 tag2 h2 named2 in
            let prefix = quoted-unique Double b v w (encodes (x ++ r)) (encodes (x2 ++ r2)) quoted quoted2 in
            let rest = suffix-unique (encodes (x ++ r)) x r datatype tag x2 r2 datatype2 tag2 (refl, ok) (prefix.1, ok2) suffix suffix2 over over2 in
            (same ∙ literal_same text text2 datatype datatype2 tag tag2 (text_is ∙ ap encodes prefix.0 ∙ sym text_is2) rest.0 rest.1 ∙ sym same2, rest.2))
        | inr (begins2, named2) ↦ absurd (no_both _ begins begins2)
      ]
      | inr (begins, named) ↦ elim (object-stands b s2 r2 u h2 is2) [
        | inl (begins2, text2, datatype2, tag2, same2, named2) ↦ absurd (no_both _ begins2 begins)
        | inr (begins2, named2) ↦ subject-unique b s r t s2 r2 u h h2 named named2 (label-ends r over) (label-ends r2 over2)
      ]
    ]

last-unique : (b cs : List ℕ) (o p : Term) → IsText b cs → AfterPredicate cs o → AfterPredicate cs p → o ≡ p
last-unique b cs o p is one two =
    let (s, r, text, named, over) = last-stands b (past_blanks b) cs o is refl one in
    let (s2, r2, text2, named2, over2) = last-stands b (past_blanks b) cs p is refl two in
    (object-unique (past_blanks b) s r o s2 r2 p text text2 named named2 over over2).0

rest-unique : (b cs predicate : List ℕ) (o : Term) (predicate2 : List ℕ) (p : Term) → IsText b cs → AfterSubject cs predicate o → AfterSubject cs predicate2 p → (predicate ≡ predicate2) × (o ≡ p)
rest-unique b cs predicate o predicate2 p is one two =
    let (s, r, text, named, after) = rest-stands b (past_blanks b) cs predicate o is refl one in
    let (s2, r2, text2, named2, after2) = rest-stands b (past_blanks b) cs predicate2 p is refl two in
    let both = iri-unique (past_blanks b) s r predicate s2 r2 predicate2 text text2 named named2 in
    (both.0, last-unique (encodes r) r o p (text-rest (past_blanks b) s r text) after (subst (λ (z : List ℕ). AfterPredicate z p) (sym both.1) after2))

triple_same : (a a2 : Term) (p p2 : List ℕ) (o o2 : Term) → a ≡ a2 → p ≡ p2 → o ≡ o2 → ◌≡◌ {A = Triple} (record { subject = a; predicate = p; object = o }) (record { subject = a2; predicate = p2; object = o2 })
triple_same a a2 p p2 o o2 e f g = rw (e, f, g) refl

triple-unique : (b cs : List ℕ) (t u : Triple) → IsText b cs → FromSubject cs t → FromSubject cs u → t ≡ u
triple-unique b cs t u is (s, r, parts, named, after) (s2, r2, parts2, named2, after2) =
    let text : IsText b (s ++ r) = subst (IsText b) parts is in
    let text2 : IsText b (s2 ++ r2) = subst (IsText b) parts2 is in
    let both = subject-unique b s r t.subject s2 r2 u.subject text text2 named named2 (after-subject-ends r t.predicate t.object after) (after-subject-ends r2 u.predicate u.object after2) in
    let rest = rest-unique (encodes r) r t.predicate t.object u.predicate u.object (text-rest b s r text) after (subst (λ (z : List ℕ). AfterSubject z u.predicate u.object) (sym both.1) after2) in
    triple_same t.subject u.subject t.predicate u.predicate t.object u.object both.0 rest.0 rest.1

-- a line spells at most one triple
pub one_reading : (line : List ℕ) (t u : Triple) → SpellsTriple line t → SpellsTriple line u → t ≡ u
one_reading line t u one two =
    let (rest, text, parts, over) = line-stands line (past_blanks line) t refl one in
    let (rest2, text2, parts2, over2) = line-stands line (past_blanks line) u refl two in
    let same : rest ≡ rest2 = encodes_same rest rest2 (sym text.0 ∙ text2.0) in
    triple-unique (past_blanks line) rest t u text parts (subst (λ (z : List ℕ). FromSubject z u) (sym same) parts2)

-- and none where it is blank or a comment
pub spelled_not_empty : (line : List ℕ) (t : Triple) → SpellsTriple line t → Empty line → ⊥
spelled_not_empty line t spelled empty =
    let (rest, text, parts, over) = line-stands line (past_blanks line) t refl spelled in
    no_both (is_over (past_blanks line)) (line-empty line (past_blanks line) refl empty) over
