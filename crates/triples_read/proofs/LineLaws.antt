-- The parts of a line, one behind another.
use Rattle.std.proofs.Common.{◌≡◌, ◌<◌, ℕ, List, [], ◌∷◌, ◌++◌, true, false, refl, sym, ◌∙◌, ap, subst, arith, ◌⊎◌, inl, inr, append_assoc, Option}
use Rattle.std.specs.Prelude.{IsUtf8, nat_eq}
use Rattle.std.proofs.Math.Utf8.{scalars, encodes}
use Rattle.std.proofs.lemmas.Str.{encodes-append}
use Rattle.std.proofs.lemmas.List.{append-nil}
use Rattle.triples_read.specs.Terminals.{Blanks, Comment}
use Rattle.triples_read.specs.ByteReaders.{past_blanks, starts_with, is_over}
use Rattle.triples_read.specs.Lines.{Suffix, IsIri, IsBlankNode, IsLiteral, IsSubject, IsObject, SpellsTriple, Empty}
use Rattle.triples_read.specs.SpelledPrefixes.{Prefix, IsText, EndsLabel}
use Rattle.triples_read.specs.LineRests.{AfterObject, AfterPredicate, AfterSubject, FromSubject}
use Rattle.triples_read.specs.declared.term.Term.{Term}
use Rattle.triples_read.specs.declared.term.Term.TheVariants.{Iri, Blank, Literal}
use Rattle.triples_read.specs.declared.term.Triple.{Triple}
use Rattle.triples_read.proofs.Basics.{cons-tail, scalars-right}
use Rattle.triples_read.proofs.LabelEnds.{no_chars}
use Rattle.triples_read.proofs.BlankLaws.{skip-found, skip-whole, skip-end}
use Rattle.triples_read.proofs.PrefixLaws.{first-byte, behind-byte, Starts, skip-to, starts-cons}
use Rattle.triples_read.proofs.LiteralLaws.{iri-starts}
use Rattle.triples_read.proofs.Follow.{subject-ends}

-- what stands in front where a subject or an object does
begins : (c d : ℕ) (bytes s r x : List ℕ) → d < 128 → s ≡ d ∷ x → IsText bytes (s ++ r) → starts_with c bytes ≡ starts_with c (d ∷ [])
begins c d bytes s r x small sp is = ap (starts_with c) (first-byte d bytes (x ++ r) small (is.0 ∙ ap (λ (z : List ℕ). encodes (z ++ r)) sp))

pub subject-stands : (bytes s r : List ℕ) (t : Term) → IsText bytes (s ++ r) → IsSubject s t → ((starts_with 60 bytes ≡ true) × (iri : List ℕ) × (t ≡ Iri iri) × IsIri s iri) ⊎ ((starts_with 60 bytes ≡ false) × (label : List ℕ) × (t ≡ Blank label) × IsBlankNode s label)
subject-stands bytes s r (Iri iri) is (v, (body, sp, m), named) = inl (begins 60 60 bytes s r (body ++ 62 ∷ []) (omega arith) sp is, iri, refl, (v, (body, sp, m), named))
subject-stands bytes s r (Blank label) is (v, (sp, good), named) = inr (begins 60 95 bytes s r (58 ∷ v) (omega arith) sp is, label, refl, (v, (sp, good), named))
subject-stands bytes s r (Literal text datatype tag) is none = absurd none

pub object-stands : (bytes s r : List ℕ) (t : Term) → IsText bytes (s ++ r) → IsObject s t → ((starts_with 34 bytes ≡ true) × (text : List ℕ) × (datatype : List ℕ) × (tag : Option (List ℕ)) × (t ≡ Literal text datatype tag) × IsLiteral s text datatype tag) ⊎ ((starts_with 34 bytes ≡ false) × IsSubject s t)
object-stands bytes s r (Iri iri) is (v, (body, sp, m), named) = inr (begins 34 60 bytes s r (body ++ 62 ∷ []) (omega arith) sp is, (v, (body, sp, m), named))
object-stands bytes s r (Blank label) is (v, (sp, good), named) = inr (begins 34 95 bytes s r (58 ∷ v) (omega arith) sp is, (v, (sp, good), named))
object-stands bytes s r (Literal text datatype tag) is (quoted, rest, v, sp, (body, qp, m), text_is, suffix) =
    inl (begins 34 34 bytes s r ((body ++ 34 ∷ []) ++ rest) (omega arith) (sp ∙ ap (λ (z : List ℕ). z ++ rest) qp) is, text, datatype, tag, refl, (quoted, rest, v, sp, (body, qp, m), text_is, suffix))

pub subject-object : (s : List ℕ) (t : Term) → IsSubject s t → IsObject s t
subject-object s (Iri iri) h = h
subject-object s (Blank label) h = h
subject-object s (Literal text datatype tag) h = absurd h

pub object-subject : (s : List ℕ) (t : Term) → ((text datatype : List ℕ) (tag : Option (List ℕ)) → t ≡ Literal text datatype tag → ⊥) → IsObject s t → IsSubject s t
object-subject s (Iri iri) other h = h
object-subject s (Blank label) other h = h
object-subject s (Literal text datatype tag) other h = absurd (other text datatype tag refl)

pub literal-suffix : (s text datatype : List ℕ) (tag : Option (List ℕ)) → IsLiteral s text datatype tag → (r : List ℕ) × Suffix r datatype tag
literal-suffix s text datatype tag (quoted, rest, v, sp, string, text_is, suffix) = (rest, suffix)

subject-starts : (s : List ℕ) (t : Term) → IsSubject s t → Starts s
subject-starts s (Iri iri) h = iri-starts s iri h
subject-starts s (Blank label) (v, (sp, good), named) = (95, 58 ∷ v, sp, omega arith, refl)
subject-starts s (Literal text datatype tag) h = absurd h

object-starts : (s : List ℕ) (t : Term) → IsObject s t → Starts s
object-starts s (Iri iri) h = iri-starts s iri h
object-starts s (Blank label) (v, (sp, good), named) = (95, 58 ∷ v, sp, omega arith, refl)
object-starts s (Literal text datatype tag) (quoted, rest, v, sp, (body, qp, m), text_is, suffix) = (34, (body ++ 34 ∷ []) ++ rest, sp ∙ ap (λ (z : List ℕ). z ++ rest) qp, omega arith, refl)

-- nothing or a comment
over-comment : (b cs : List ℕ) → IsText b cs → is_over b ≡ true → Comment cs
over-comment [] cs is over = inl (no_chars cs (sym is.0))
over-comment (x ∷ xs) cs is over =
    let eq : x ∷ xs ≡ 35 ∷ xs = starts-cons 35 (x ∷ xs) xs over refl in
    let (r, parts, text) = behind-byte 35 (x ∷ xs) xs cs (omega arith) eq is in
    inr (r, parts)

pub comment-over : (b gap comment : List ℕ) → b ≡ encodes (gap ++ comment) → Blanks gap → Comment comment → is_over (past_blanks b) ≡ true
comment-over b gap comment is blanks (inl none) =
    ap is_over (skip-end b gap (is ∙ encodes-append gap comment ∙ ap (λ (z : List ℕ). encodes gap ++ encodes z) none ∙ append-nil (encodes gap)) blanks)
comment-over b gap comment is blanks (inr (text, begin)) =
    ap is_over (first-byte 35 (past_blanks b) text (omega arith) (skip-whole b gap 35 text (is ∙ ap (λ (z : List ℕ). encodes (gap ++ z)) begin) blanks (omega arith) refl))

-- the dot
pub dot-found : (bytes after behind rest cs : List ℕ) → IsText bytes cs → after ≡ past_blanks bytes → after ≡ 46 ∷ behind → rest ≡ past_blanks behind → is_over rest ≡ true → AfterObject cs
dot-found bytes after behind rest cs is after_is dot rest_is over =
    let (gap, cs2, split, text, blanks) = skip-found bytes cs is in
    let eq : past_blanks bytes ≡ 46 ∷ behind = sym after_is ∙ dot in
    let (cs3, parts, text2) = behind-byte 46 (past_blanks bytes) behind cs2 (omega arith) eq text in
    let (gap2, cs4, split2, text3, blanks2) = skip-found behind cs3 text2 in (
      gap,
      gap2,
      cs4,
      split ∙ ap (λ (z : List ℕ). gap ++ z) (parts ∙ ap (λ (z : List ℕ). 46 ∷ z) split2),
      blanks,
      blanks2,
      over-comment (past_blanks behind) cs4 text3 (ap is_over (sym rest_is) ∙ over),
    )

pub dot-stands : (bytes after cs : List ℕ) → IsText bytes cs → after ≡ past_blanks bytes → AfterObject cs → (starts_with 46 after ≡ true) × ((behind rest : List ℕ) → after ≡ 46 ∷ behind → rest ≡ past_blanks behind → is_over rest ≡ true)
dot-stands bytes after cs is after_is (gap, more, comment, parts, blanks, blanks2, last) =
    let skipped = skip-whole bytes gap 46 (more ++ comment) (is.0 ∙ ap encodes parts) blanks (omega arith) refl in
    let eq : after ≡ 46 ∷ encodes (more ++ comment) = after_is ∙ first-byte 46 (past_blanks bytes) (more ++ comment) (omega arith) skipped in (
      ap (starts_with 46) eq,
      λ behind rest dot rest_is.
          ap is_over rest_is ∙ comment-over behind more comment (cons-tail (sym dot ∙ eq)) blanks2 last,
    )

-- the object and what follows
pub last-found : (bytes after cs rest : List ℕ) (object : Term) → IsText bytes cs → after ≡ past_blanks bytes → ((cs2 : List ℕ) → IsText after cs2 → Prefix (λ s. IsObject s object) cs2 rest) → ((r : List ℕ) → IsText rest r → AfterObject r) → AfterPredicate cs object
last-found bytes after cs rest object is after_is found ends =
    let (gap, cs2, split, text, blanks) = skip-found bytes cs is in
    let (s, r, parts, text2, named) = found cs2 (subst (λ (z : List ℕ). IsText z cs2) (sym after_is) text) in
    (gap, s, r, split ∙ ap (λ (z : List ℕ). gap ++ z) parts, blanks, named, ends r text2)

pub last-stands : (bytes after cs : List ℕ) (object : Term) → IsText bytes cs → after ≡ past_blanks bytes → AfterPredicate cs object → (s : List ℕ) × (r : List ℕ) × IsText after (s ++ r) × IsObject s object × AfterObject r
last-stands bytes after cs object is after_is (gap, s, r, parts, blanks, named, ends) =
    let text = skip-to bytes cs gap s r is parts blanks (object-starts s object named) in
    (s, r, subst (λ (z : List ℕ). IsText z (s ++ r)) (sym after_is) text, named, ends)

-- the predicate and what follows
pub rest-found : (bytes after cs rest predicate : List ℕ) (object : Term) → IsText bytes cs → after ≡ past_blanks bytes → ((cs2 : List ℕ) → IsText after cs2 → Prefix (λ s. IsIri s predicate) cs2 rest) → ((r : List ℕ) → IsText rest r → AfterPredicate r object) → AfterSubject cs predicate object
rest-found bytes after cs rest predicate object is after_is found ends =
    let (gap, cs2, split, text, blanks) = skip-found bytes cs is in
    let (s, r, parts, text2, named) = found cs2 (subst (λ (z : List ℕ). IsText z cs2) (sym after_is) text) in
    (gap, s, r, split ∙ ap (λ (z : List ℕ). gap ++ z) parts, blanks, named, ends r text2)

pub rest-stands : (bytes after cs predicate : List ℕ) (object : Term) → IsText bytes cs → after ≡ past_blanks bytes → AfterSubject cs predicate object → (s : List ℕ) × (r : List ℕ) × IsText after (s ++ r) × IsIri s predicate × AfterPredicate r object
rest-stands bytes after cs predicate object is after_is (gap, s, r, parts, blanks, named, ends) =
    let text = skip-to bytes cs gap s r is parts blanks (iri-starts s predicate named) in
    (s, r, subst (λ (z : List ℕ). IsText z (s ++ r)) (sym after_is) text, named, ends)

-- a text that is split
pub text-behind : (bytes rest s r : List ℕ) → IsText bytes (s ++ r) → rest ≡ encodes r → IsText rest r
text-behind bytes rest s r is left = (left, scalars-right s r is.1)

-- what follows a subject ends its label
pub after-subject-ends : (r predicate : List ℕ) (object : Term) → AfterSubject r predicate object → EndsLabel r
after-subject-ends r predicate object (gap, s, rest, parts, blanks, (v, named, is), ends) = subst EndsLabel (sym parts) (subject-ends gap s v rest blanks named)

reassoc : (a b c d e g tail : List ℕ) → (a ++ (b ++ (c ++ (d ++ (e ++ (g ++ 46 ∷ [])))))) ++ tail ≡ a ++ (b ++ (c ++ (d ++ (e ++ (g ++ 46 ∷ tail)))))
reassoc a b c d e g tail = rw (append_assoc, append_assoc, append_assoc, append_assoc, append_assoc, append_assoc) refl

-- a line by its parts
pub spells-parts : (line : List ℕ) (t : Triple) → SpellsTriple line t → (cs : List ℕ) × (before : List ℕ) × (rest : List ℕ) × IsText line cs × (cs ≡ before ++ rest) × Blanks before × FromSubject rest t
spells-parts line t (cs, before, triple, after, comment, parts, blanks, is, blanks2, last) =
    let tail : List ℕ = after ++ comment in
    let whole : triple ++ tail ≡ is.subject ++ (is.gap ++ (is.predicate ++ (is.gap2 ++ (is.object ++ (is.gap3 ++ 46 ∷ tail))))) =
    ap (λ (z : List ℕ). z ++ tail) is.whole ∙ reassoc is.subject is.gap is.predicate is.gap2 is.object is.gap3 tail in (
      cs.chars,
      before,
      triple ++ tail,
      (cs.encoded, cs.scalars),
      parts,
      blanks,
      (
        is.subject,
        is.gap ++ (is.predicate ++ (is.gap2 ++ (is.object ++ (is.gap3 ++ 46 ∷ tail)))),
        whole,
        is.is_subject,
        (
          is.gap,
          is.predicate,
          is.gap2 ++ (is.object ++ (is.gap3 ++ 46 ∷ tail)),
          refl,
          is.gaps.0,
          is.is_predicate,
          (
            is.gap2,
            is.object,
            is.gap3 ++ 46 ∷ tail,
            refl,
            is.gaps.1,
            is.is_object,
            (is.gap3, after, comment, refl, is.gaps.2, blanks2, last),
          ),
        ),
      ),
    )

pub parts-spells : (line : List ℕ) (t : Triple) (cs before rest : List ℕ) → IsText line cs → cs ≡ before ++ rest → Blanks before → FromSubject rest t → SpellsTriple line t
parts-spells line t cs before rest is split blanks (subject, r1, p1, is_subject, (gap, predicate, r2, p2, b1, is_predicate, (gap2, object, r3, p3, b2, is_object, (gap3, after, comment, p4, b3, b4, last)))) =
    let tail : List ℕ = after ++ comment in
    let triple : List ℕ = subject ++ (gap ++ (predicate ++ (gap2 ++ (object ++ (gap3 ++ 46 ∷ []))))) in
    let whole : rest ≡ triple ++ tail =
    p1 ∙ ap (λ (z : List ℕ). subject ++ z) (p2 ∙ ap (λ (z : List ℕ). gap ++ (predicate ++ z)) (p3 ∙ ap (λ (z : List ℕ). gap2 ++ (object ++ z)) p4))
    ∙ sym (reassoc subject gap predicate gap2 object gap3 tail) in (
      record { chars = cs; scalars = is.1; encoded = is.0 },
      before,
      triple,
      after,
      comment,
      split ∙ ap (λ (z : List ℕ). before ++ z) whole,
      blanks,
      record { subject = subject; gap = gap; predicate = predicate; gap2 = gap2; object = object; gap3 = gap3; whole = refl; gaps = (b1, b2, b3); is_subject = is_subject; is_predicate = is_predicate; is_object = is_object },
      b4,
      last,
    )

-- a line that begins with a triple isn't over
over_not : (c : ℕ) (b x : List ℕ) → b ≡ c ∷ x → nat_eq c 35 ≡ false → is_over b ≡ false
over_not c b x is other = ap is_over is ∙ other

first_not : (s : List ℕ) (t : Term) (after rest r : List ℕ) → IsSubject s t → rest ≡ s ++ r → IsText after rest → is_over after ≡ false
first_not s (Iri iri) after rest r (v, (body, sp, m), named) parts is =
    over_not 60 after (encodes ((body ++ 62 ∷ []) ++ r)) (first-byte 60 after ((body ++ 62 ∷ []) ++ r) (omega arith) (is.0 ∙ ap encodes (parts ∙ ap (λ (z : List ℕ). z ++ r) sp))) refl
first_not s (Blank label) after rest r (v, (sp, good), named) parts is =
    over_not 95 after (encodes ((58 ∷ v) ++ r)) (first-byte 95 after ((58 ∷ v) ++ r) (omega arith) (is.0 ∙ ap encodes (parts ∙ ap (λ (z : List ℕ). z ++ r) sp))) refl
first_not s (Literal text datatype tag) after rest r h parts is = absurd h

pub line-stands : (line after : List ℕ) (t : Triple) → after ≡ past_blanks line → SpellsTriple line t → (rest : List ℕ) × IsText after rest × FromSubject rest t × (is_over after ≡ false)
line-stands line after t after_is spelled =
    let (cs, before, rest, is, split, blanks, (s, r, parts, named, ends)) = spells-parts line t spelled in
    let (c, x, sp, small, other) = subject-starts s t.subject named in
    let text = skip-to line cs before s r is (split ∙ ap (λ (z : List ℕ). before ++ z) parts) blanks (c, x, sp, small, other) in
    let text2 : IsText after rest = (after_is ∙ text.0 ∙ ap encodes (sym parts), ap scalars parts ∙ text.1) in
    (rest, text2, (s, r, parts, named, ends), first_not s t.subject after rest r named parts text2)

pub line-empty : (line after : List ℕ) → after ≡ past_blanks line → Empty line → is_over after ≡ true
line-empty line after after_is (cs, before, comment, parts, blanks, last) =
    ap is_over after_is ∙ comment-over line before comment (cs.encoded ∙ ap encodes parts) blanks last

pub empty-found : (line after : List ℕ) → IsUtf8 line → after ≡ past_blanks line → is_over after ≡ true → Empty line
empty-found line after (cs, (ok, eq)) after_is over =
    let is : IsText line cs = (sym eq, ok) in
    let (gap, rest, split, text, blanks) = skip-found line cs is in
    (record { chars = cs; scalars = ok; encoded = sym eq }, gap, rest, split, blanks, over-comment (past_blanks line) rest text (ap is_over (sym after_is) ∙ over))

pub line-found : (line after : List ℕ) (t : Triple) → IsUtf8 line → after ≡ past_blanks line → ((rest : List ℕ) → IsText after rest → FromSubject rest t) → SpellsTriple line t
line-found line after t (cs, (ok, eq)) after_is found =
    let is : IsText line cs = (sym eq, ok) in
    let (gap, rest, split, text, blanks) = skip-found line cs is in
    parts-spells line t cs gap rest is split blanks (found rest (subst (λ (z : List ℕ). IsText z rest) (sym after_is) text))
