-- The longest label, with its inner dots.
use Rattle.std.proofs.Common.{◌≡◌, ◌≢◌, ◌<◌, ◌+◌, ℕ, List, [], ◌∷◌, ◌++◌, length, true, false, refl, sym, ◌∙◌, ap, arith, ◌⊎◌, inl, inr, append_assoc, length-append, ◌&&◌}
use Rattle.std.specs.Prelude.{nat_eq, IsUtf8}
use Rattle.std.proofs.Math.Utf8.{scalar, scalars, encode, encodes}
use Rattle.std.proofs.lemmas.Str.{cons_from_encodes, encodes-append, length-encode, len_utf8_bounds, length-le-encodes}
use Rattle.std.proofs.lemmas.List.{nil_from_length}
use Rattle.std.proofs.lemmas.Bool.{ne_eqb}
use Rattle.triples_read.specs.Characters.{pn_chars, label_inner, label_first}
use Rattle.triples_read.specs.Terminals.{EndsIn, AllOf, IsLabel}
use Rattle.triples_read.specs.SpelledPrefixes.{IsLabelPrefix, EndsLabel}
use Rattle.triples_read.specs.ByteReaders.{past_label}
use Rattle.triples_read.proofs.Basics.{bool_cases, and_both, no_both}

past-pn : (tail cs : List ℕ) (c : ℕ) → pn_chars c ≡ true → past_label tail (c ∷ cs) ≡ past_label cs cs
past-pn tail cs c e = rw e refl

past-dot : (tail cs : List ℕ) (c : ℕ) → pn_chars c ≡ false → nat_eq c 46 ≡ true → past_label tail (c ∷ cs) ≡ past_label tail cs
past-dot tail cs c e d = rw (e, d) refl

past-end : (tail cs : List ℕ) (c : ℕ) → pn_chars c ≡ false → nat_eq c 46 ≡ false → past_label tail (c ∷ cs) ≡ tail
past-end tail cs c e d = rw (e, d) refl

inner_cases : (c : ℕ) → label_inner c ≡ true → (pn_chars c ≡ true) ⊎ ((pn_chars c ≡ false) × (nat_eq c 46 ≡ true))
inner_cases c h = elim (bool_cases (pn_chars c)) [ inl e ↦ inl e | inr e ↦ inr (e, sym (rw e refl) ∙ h) ]

-- a label at whose end no longer one goes on is read whole
past-label : (more : List ℕ) (c : ℕ) (t tail : List ℕ) → AllOf label_inner more → pn_chars c ≡ true → past_label t (more ++ c ∷ tail) ≡ past_label tail tail
past-label [] c t tail all last = past-pn t tail c last
past-label (m ∷ more) c t tail all last =
    elim (inner_cases m all.0.1) [
      | inl e ↦ past-pn t (more ++ c ∷ tail) m e ∙ past-label more c (more ++ c ∷ tail) tail all.1 last
      | inr e ↦ past-dot t (more ++ c ∷ tail) m e.0 e.1 ∙ past-label more c t tail all.1 last
    ]

pub label-whole : (s tail : List ℕ) → EndsIn label_inner pn_chars s → past_label tail tail ≡ tail → past_label (s ++ tail) (s ++ tail) ≡ tail
label-whole s tail (inl none) ends = ap (λ (z : List ℕ). past_label (z ++ tail) (z ++ tail)) none ∙ ends
label-whole s tail (inr (more, c, parts, all, ok, last)) ends =
    let whole : s ++ tail ≡ more ++ c ∷ tail = ap (λ (z : List ℕ). z ++ tail) parts ∙ append_assoc more (c ∷ []) tail in
    ap (λ (z : List ℕ). past_label z z) whole ∙ past-label more c (more ++ c ∷ tail) tail all last ∙ ends

all_both : (xs ys : List ℕ) → AllOf label_inner xs → AllOf label_inner ys → AllOf label_inner (xs ++ ys)
all_both [] ys a b = b
all_both (x ∷ xs) ys a b = (a.0, all_both xs ys a.1 b)

pn_inner : (c : ℕ) → pn_chars c ≡ true → label_inner c ≡ true
pn_inner c e = rw e refl

dot_inner : (c : ℕ) → pn_chars c ≡ false → nat_eq c 46 ≡ true → label_inner c ≡ true
dot_inner c e d = rw (e, d) refl

-- what is read is a label's part
label-prefix : (whole s t done rest : List ℕ) → whole ≡ s ++ t → EndsIn label_inner pn_chars s → whole ≡ done ++ rest → AllOf label_inner done → scalars rest ≡ true → (prefix : List ℕ) × (whole ≡ prefix ++ past_label t rest) × EndsIn label_inner pn_chars prefix
label-prefix whole s t done [] parts ends parts' inner ok = (s, parts, ends)
label-prefix whole s t done (c ∷ rest) parts ends parts' inner ok =
    let both = and_both (scalar c) (scalars rest) ok in
    let on : whole ≡ (done ++ c ∷ []) ++ rest = parts' ∙ sym (append_assoc done (c ∷ []) rest) in
    elim (bool_cases (pn_chars c)) [
      | inl e ↦ (
          let (prefix, is, good) = label-prefix whole (done ++ c ∷ []) rest (done ++ c ∷ []) rest on (inr (done, c, refl, inner, both.0, e)) on (all_both done (c ∷ []) inner ((both.0, pn_inner c e), tt)) both.1 in
          (prefix, is ∙ ap (λ (z : List ℕ). prefix ++ z) (sym (past-pn t rest c e)), good))
      | inr e ↦ elim (bool_cases (nat_eq c 46)) [
        | inl d ↦ (
            let (prefix, is, good) = label-prefix whole s t (done ++ c ∷ []) rest parts ends on (all_both done (c ∷ []) inner ((both.0, dot_inner c e d), tt)) both.1 in
            (prefix, is ∙ ap (λ (z : List ℕ). prefix ++ z) (sym (past-dot t rest c e d)), good))
        | inr d ↦ (s, parts ∙ ap (λ (z : List ℕ). s ++ z) (sym (past-end t rest c e d)), ends)
      ]
    ]

pub label-read : (cs : List ℕ) → scalars cs ≡ true → (prefix : List ℕ) × (cs ≡ prefix ++ past_label cs cs) × EndsIn label_inner pn_chars prefix
label-read cs ok = label-prefix cs [] cs [] cs refl (inl refl) refl tt ok

pub no_chars : (r : List ℕ) → encodes r ≡ [] → r ≡ []
no_chars r e = nil_from_length r (omega (arith, length-le-encodes r, ap length e))

-- the loop over a label's characters
abbrev pub LabelSoFar : List ℕ → List ℕ → List ℕ → Type 0
LabelSoFar text tail rest = (cs : List ℕ) → text ≡ encodes cs → (t : List ℕ) × (r : List ℕ) × (tail ≡ encodes t) × (rest ≡ encodes r) × (past_label t r ≡ past_label cs cs)

pub so-far-pn : (text tail rest after : List ℕ) (c : ℕ) → LabelSoFar text tail rest → rest ≡ encode c ++ after → pn_chars c ≡ true → LabelSoFar text after after
so-far-pn text tail rest after c h step e cs is =
    let (t, r, tail_is, rest_is, same) = h cs is in
    let (es, prefix, left) = cons_from_encodes r after c (sym rest_is ∙ step) in
    (es, es, sym left, sym left, sym (past-pn t es c e) ∙ ap (past_label t) (sym prefix) ∙ same)

pub so-far-dot : (text tail rest after : List ℕ) (c : ℕ) → LabelSoFar text tail rest → rest ≡ encode c ++ after → pn_chars c ≡ false → c ≡ 46 → LabelSoFar text tail after
so-far-dot text tail rest after c h step e d cs is =
    let (t, r, tail_is, rest_is, same) = h cs is in
    let (es, prefix, left) = cons_from_encodes r after c (sym rest_is ∙ step) in
    (t, es, tail_is, sym left, sym (past-dot t es c e (ap (λ (z : ℕ). nat_eq z 46) d)) ∙ ap (past_label t) (sym prefix) ∙ same)

pub so-far-end : (text tail rest after : List ℕ) (c : ℕ) → LabelSoFar text tail rest → rest ≡ encode c ++ after → pn_chars c ≡ false → c ≢ 46 → (cs : List ℕ) → text ≡ encodes cs → tail ≡ encodes (past_label cs cs)
so-far-end text tail rest after c h step e d cs is =
    let (t, r, tail_is, rest_is, same) = h cs is in
    let (es, prefix, left) = cons_from_encodes r after c (sym rest_is ∙ step) in
    tail_is ∙ ap encodes (sym (past-end t es c e (ne_eqb c 46 d)) ∙ ap (past_label t) (sym prefix) ∙ same)

pub so-far-over : (text tail rest : List ℕ) → LabelSoFar text tail rest → rest ≡ [] → (cs : List ℕ) → text ≡ encodes cs → tail ≡ encodes (past_label cs cs)
so-far-over text tail rest h empty cs is =
    let (t, r, tail_is, rest_is, same) = h cs is in
    let none : r ≡ [] = no_chars r (sym rest_is ∙ empty) in
    tail_is ∙ ap encodes (ap (past_label t) (sym none) ∙ same)

pub shorter : (rest after : List ℕ) (c : ℕ) → rest ≡ encode c ++ after → length after < length rest
shorter rest after c step =
    let size : length rest ≡ length (encode c) + length after = ap length step ∙ length-append (encode c) after in
    omega (arith, size, length-encode c, (len_utf8_bounds c).0)

pub prefix-found : (text after left : List ℕ) (first : ℕ) → IsUtf8 text → text ≡ encode first ++ after → label_first first ≡ true → ((cs : List ℕ) → after ≡ encodes cs → left ≡ encodes (past_label cs cs)) → IsLabelPrefix text left
prefix-found text after left first (cs, (ok, enc)) step good reads =
    let (es, prefix, behind) = cons_from_encodes cs after first (enc ∙ step) in
    let ok' : scalar first && scalars es ≡ true = sym (ap scalars prefix) ∙ ok in
    let both = and_both (scalar first) (scalars es) ok' in
    let (more, parts, ends) = label-read es both.1 in
    let split : encodes es ≡ encodes more ++ encodes (past_label es es) = ap encodes parts ∙ encodes-append more (past_label es es) in
    let whole : text ≡ encodes (first ∷ more) ++ left =
    step ∙ ap (λ (z : List ℕ). encode first ++ z) (sym behind ∙ split ∙ ap (λ (z : List ℕ). encodes more ++ z) (sym (reads es (sym behind)))) ∙ sym (append_assoc (encode first) (encodes more) left) in
    (first ∷ more, (first, more, refl, both.0, good, ends), whole)

pub prefix-whole : (text after left : List ℕ) (first : ℕ) → text ≡ encode first ++ after → ((cs : List ℕ) → after ≡ encodes cs → left ≡ encodes (past_label cs cs)) → (v tail : List ℕ) → text ≡ encodes (v ++ tail) → IsLabel v → EndsLabel tail → (label_first first ≡ true) × (left ≡ encodes tail)
prefix-whole text after left first step reads v tail is (d, more, parts, ok, good, ends) over =
    let (es, prefix, behind) = cons_from_encodes (v ++ tail) after first (sym is ∙ step) in
    let both : d ∷ (more ++ tail) ≡ first ∷ es = ap (λ (z : List ℕ). z ++ tail) (sym parts) ∙ prefix in
    let same : d ≡ first = cc in
    let rest : more ++ tail ≡ es = cc in
    (ap label_first (sym same) ∙ good, reads (more ++ tail) (sym behind ∙ ap encodes (sym rest)) ∙ ap encodes (label-whole more tail ends over))

pub prefix-none : (text : List ℕ) → text ≡ [] → (v tail : List ℕ) → text ≡ encodes (v ++ tail) → IsLabel v → EndsLabel tail → ⊥
prefix-none text empty v tail is (d, more, parts, ok, good, ends) over =
    let none : d ∷ (more ++ tail) ≡ [] = ap (λ (z : List ℕ). z ++ tail) (sym parts) ∙ no_chars (v ++ tail) (sym is ∙ empty) in
    cc

pub prefix-other : (text after : List ℕ) (first : ℕ) → text ≡ encode first ++ after → label_first first ≡ false → (v tail : List ℕ) → text ≡ encodes (v ++ tail) → IsLabel v → EndsLabel tail → ⊥
prefix-other text after first step bad v tail is (d, more, parts, ok, good, ends) over =
    let (es, prefix, behind) = cons_from_encodes (v ++ tail) after first (sym is ∙ step) in
    let both : d ∷ (more ++ tail) ≡ first ∷ es = ap (λ (z : List ℕ). z ++ tail) (sym parts) ∙ prefix in
    let same : d ≡ first = cc in
    no_both (label_first first) (ap label_first (sym same) ∙ good) bad
