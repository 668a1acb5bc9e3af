-- Language tags at the front.
use Rattle.std.proofs.Common.{◌≡◌, ◌≢◌, ◌<◌, ◌≤◌, ◌+◌, ◌-◌, ℕ, List, [], ◌∷◌, ◌++◌, length, take, drop, map, Bool, true, false, refl, sym, ◌∙◌, ap, subst, arith, inl, inr, append_assoc, length-append, Option, Some, None}
use Rattle.std.specs.Prelude.{nat_eq, IsUtf8}
use Rattle.std.specs.Str.{IsCharBoundary}
use Rattle.std.specs.Char.{IsScalar, to_ascii_lowercase}
use Rattle.std.specs.List.{AllByRecursion, flat_map}
use Rattle.std.proofs.Math.Utf8.{scalars, encodes, low_scalar}
use Rattle.std.proofs.lemmas.Str.{encode_ascii, encodes-append}
use Rattle.std.proofs.lemmas.Bool.{eqb-true, ne_eqb, cases_lt}
use Rattle.std.proofs.lemmas.Bool.Decides.{nat_tests}
use Rattle.std.proofs.lemmas.List.Concat.{flat_map-cons}
use Rattle.graph_spec.specs.Words.{is_letter}
use Rattle.triples_read.specs.Characters.{is_letter_or_digit}
use Rattle.triples_read.specs.Terminals.{AllOf, OneOrMore, LANGTAG}
use Rattle.triples_read.specs.ByteReaders.{past_tag, tag_part}
use Rattle.triples_read.specs.SpelledPrefixes.{Prefix, IsText, EndsTag}
use Rattle.triples_read.proofs.Basics.{bool_cases, no_both, cons-tail, drop-past, take-past, scalars-right, split-encodes, seam, none_some}
use Rattle.triples_read.proofs.BlankLaws.{own_bytes}

abbrev pub dashed : List (List ℕ) → List ℕ
dashed subs = flat_map (λ sub. 45 ∷ sub) subs

-- the rest of a tag, in a part of which something is to come where it is fresh
abbrev pub TagRest : Bool → Bool → List ℕ → Type 0
TagRest main fresh s = (part : List ℕ) × (subs : List (List ℕ)) × (s ≡ part ++ dashed subs) × AllOf (tag_part main) part × ((fresh ≡ true) → part ≢ []) × AllByRecursion (OneOrMore is_letter_or_digit) subs

pub past-part : (main fresh : Bool) (c : ℕ) (cs : List ℕ) → tag_part main c ≡ true → past_tag main fresh (c ∷ cs) ≡ past_tag main false cs
past-part main fresh c cs e = rw e refl

pub past-empty : (main : Bool) (c : ℕ) (cs : List ℕ) → tag_part main c ≡ false → past_tag main true (c ∷ cs) ≡ None
past-empty main c cs e = rw e refl

pub past-dash : (main : Bool) (c : ℕ) (cs : List ℕ) → tag_part main c ≡ false → nat_eq c 45 ≡ true → past_tag main false (c ∷ cs) ≡ past_tag false true cs
past-dash main c cs e d = rw (e, d) refl

pub past-stop : (main : Bool) (c : ℕ) (cs : List ℕ) → tag_part main c ≡ false → nat_eq c 45 ≡ false → past_tag main false (c ∷ cs) ≡ Some (c ∷ cs)
past-stop main c cs e d = rw (e, d) refl

part_wide : (c : ℕ) → 128 ≤ c → is_letter_or_digit c ≡ false
part_wide c large = grind (arith, nat_tests)

letter_part : (main : Bool) (c : ℕ) → is_letter_or_digit c ≡ false → tag_part main c ≡ false
letter_part true c e = elim (bool_cases (is_letter c)) [ inl h ↦ absurd (no_both (is_letter_or_digit c) (rw h refl) e) | inr h ↦ h ]
letter_part false c e = e

part_small : (main : Bool) (c : ℕ) → tag_part main c ≡ true → c < 128
part_small main c e =
    elim (cases_lt c 128) [
      | inl small ↦ small
      | inr large ↦ absurd (no_both (tag_part main c) e (letter_part main c (part_wide c large)))
    ]

part_scalar : (main : Bool) (c : ℕ) → tag_part main c ≡ true → IsScalar c
part_scalar main c e = low_scalar c (omega (arith, part_small main c e))

pub no_cons : (c : ℕ) (cs : List ℕ) → c ∷ cs ≡ [] → ⊥
no_cons c cs e = cc

pub some_same : (a b : List ℕ) → ◌≡◌ {A = Option (List ℕ)} (Some a) (Some b) → a ≡ b
some_same a b e = cc

not_fresh : (x : List ℕ) → false ≡ true → x ≡ [] → ⊥
not_fresh x e z = cc

nothing_left : (main : Bool) → TagRest main false []
nothing_left main = ([], [], refl, tt, not_fresh [], tt)

at_stop : (main fresh : Bool) (c : ℕ) (cs r : List ℕ) → tag_part main c ≡ false → fresh ≡ false → nat_eq c 45 ≡ false → past_tag main fresh (c ∷ cs) ≡ Some r → c ∷ cs ≡ r
at_stop main fresh c cs r bad f d e = some_same (c ∷ cs) r (sym (past-stop main c cs bad d) ∙ ap (λ (b : Bool). past_tag main b (c ∷ cs)) (sym f) ∙ e)

-- what is read is the rest of a tag
pub tag-read : (cs : List ℕ) (main fresh : Bool) (r : List ℕ) → past_tag main fresh cs ≡ Some r → (s : List ℕ) × (cs ≡ s ++ r) × TagRest main fresh s
tag-read [] main true r e = absurd (none_some r e)
tag-read [] main false r e = ([], some_same [] r e, nothing_left main)
tag-read (c ∷ cs) main fresh r e =
    elim (bool_cases (tag_part main c)) [
      | inl good ↦ (
          let (s, parts, (part, subs, is, all, some, rest)) = tag-read cs main false r (sym (past-part main fresh c cs good) ∙ e) in
          (c ∷ s, ap (λ (z : List ℕ). c ∷ z) parts, (c ∷ part, subs, ap (λ (z : List ℕ). c ∷ z) is, ((part_scalar main c good, good), all), λ f. no_cons c part, rest)))
      | inr bad ↦ elim (bool_cases fresh) [
        | inl f ↦ absurd (none_some r (sym (past-empty main c cs bad) ∙ ap (λ (b : Bool). past_tag main b (c ∷ cs)) (sym f) ∙ e))
        | inr f ↦ elim (bool_cases (nat_eq c 45)) [
          | inl d ↦ (
              let (s, parts, (part, subs, is, all, some, rest)) = tag-read cs false true r (sym (past-dash main c cs bad d) ∙ ap (λ (b : Bool). past_tag main b (c ∷ cs)) (sym f) ∙ e) in (
                45 ∷ s,
                ap (λ (z : ℕ). z ∷ cs) (eqb-true c 45 d) ∙ ap (λ (z : List ℕ). 45 ∷ z) parts,
                ([], part ∷ subs, ap (λ (z : List ℕ). 45 ∷ z) is ∙ sym (flat_map-cons (λ (sub : List ℕ). 45 ∷ sub) part subs), tt, λ t. absurd (no_both fresh t f), ((some refl, all), rest)),
              ))
          | inr d ↦ ([], at_stop main fresh c cs r bad f d e, ([], [], refl, tt, λ t. absurd (no_both fresh t f), tt))
        ]
      ]
    ]

part-on : (part : List ℕ) (main fresh : Bool) (x r : List ℕ) → AllOf (tag_part main) part → ((fresh ≡ true) → part ≢ []) → past_tag main false x ≡ Some r → past_tag main fresh (part ++ x) ≡ Some r
part-on [] main true x r all some after = absurd (some refl refl)
part-on [] main false x r all some after = after
part-on (c ∷ part) main fresh x r all some after = past-part main fresh c (part ++ x) all.0.1 ∙ part-on part main false x r all.1 (not_fresh part) after

dash_part : (main : Bool) → tag_part main 45 ≡ false
dash_part true = refl
dash_part false = refl

subs-on : (subs : List (List ℕ)) (main : Bool) (r : List ℕ) → AllByRecursion (OneOrMore is_letter_or_digit) subs → EndsTag r → past_tag main false (dashed subs ++ r) ≡ Some r
subs-on [] main [] all ends = refl
subs-on [] main (c ∷ r) all ends = past-stop main c r (letter_part main c ends.0) (ne_eqb c 45 ends.1)
subs-on (sub ∷ subs) main r all ends =
    ap (λ (z : List ℕ). past_tag main false (z ++ r)) (flat_map-cons (λ (x : List ℕ). 45 ∷ x) sub subs)
    ∙ ap (λ (z : List ℕ). past_tag main false (45 ∷ z)) (append_assoc sub (dashed subs) r)
    ∙ past-dash main 45 (sub ++ (dashed subs ++ r)) (dash_part main) refl
    ∙ part-on sub false true (dashed subs ++ r) r all.0.1 (λ t. all.0.0) (subs-on subs false r all.1 ends)

-- a tag is read whole
pub rest-whole : (s : List ℕ) (main fresh : Bool) (r : List ℕ) → TagRest main fresh s → EndsTag r → past_tag main fresh (s ++ r) ≡ Some r
rest-whole s main fresh r (part, subs, is, all, some, others) ends =
    ap (λ (z : List ℕ). past_tag main fresh (z ++ r)) is
    ∙ ap (past_tag main fresh) (append_assoc part (dashed subs) r)
    ∙ part-on part main fresh (dashed subs ++ r) r all some (subs-on subs main r others ends)

pub langtag-rest : (s tag : List ℕ) → LANGTAG (64 ∷ s) tag → TagRest true true s × (tag ≡ map to_ascii_lowercase s)
langtag-rest s tag (main, subs, first, others, is, lower) = ((main, subs, cons-tail is, first.1, (λ t. first.0), others), cons-tail lower)

pub rest-langtag : (s : List ℕ) → TagRest true true s → LANGTAG (64 ∷ s) (map to_ascii_lowercase s)
rest-langtag s (part, subs, is, all, some, others) = (part, subs, (some refl, all), others, ap (λ (z : List ℕ). 64 ∷ z) is, refl)

subs_bytes : (subs : List (List ℕ)) → AllByRecursion (OneOrMore is_letter_or_digit) subs → encodes (dashed subs) ≡ dashed subs
subs_bytes [] all = refl
subs_bytes (sub ∷ subs) all =
    ap encodes (flat_map-cons (λ (x : List ℕ). 45 ∷ x) sub subs)
    ∙ rw (encode_ascii 45 (omega arith)) (ap (λ (z : List ℕ). 45 ∷ z) (encodes-append sub (dashed subs)
    ∙ ap (λ (z : List ℕ). z ++ encodes (dashed subs)) (own_bytes (tag_part false) (part_small false) sub all.0.1)
    ∙ ap (λ (z : List ℕ). sub ++ z) (subs_bytes subs all.1)))
    ∙ sym (flat_map-cons (λ (x : List ℕ). 45 ∷ x) sub subs)

pub rest_bytes : (s : List ℕ) (main fresh : Bool) → TagRest main fresh s → encodes s ≡ s
rest_bytes s main fresh (part, subs, is, all, some, others) =
    ap encodes is ∙ encodes-append part (dashed subs)
    ∙ ap (λ (z : List ℕ). z ++ encodes (dashed subs)) (own_bytes (tag_part main) (part_small main) part all)
    ∙ ap (λ (z : List ℕ). part ++ z) (subs_bytes subs others)
    ∙ sym is

pub cut_at : (bytes s tail : List ℕ) → bytes ≡ s ++ tail → (take (length bytes - length tail) bytes ≡ s) × (drop (length bytes - length tail) bytes ≡ tail)
cut_at bytes s tail is =
    let size : length bytes ≡ length s + length tail = ap length is ∙ length-append s tail in
    let count : length bytes - length tail ≡ length s = omega (arith, size) in
    (ap (λ (n : ℕ). take n bytes) count ∙ ap (take (length s)) is ∙ take-past s tail, ap (λ (n : ℕ). drop n bytes) count ∙ ap (drop (length s)) is ∙ drop-past s tail)

-- the tag that is read
pub tag-found : (b rest prefix back text cs : List ℕ) → past_tag true true b ≡ Some rest → prefix ≡ take (length b - length rest) b → back ≡ drop (length b - length rest) b → text ≡ map to_ascii_lowercase prefix → IsText b cs → Prefix (λ s. LANGTAG (64 ∷ s) text) cs back
tag-found b rest prefix back text cs read prefix_is back_is text_is is =
    let (s, parts, tag) = tag-read b true true rest read in
    let cut = cut_at b s rest parts in
    let (r, split, left) = split-encodes s cs rest (sym is.0 ∙ parts ∙ ap (λ (z : List ℕ). z ++ rest) (sym (rest_bytes s true true tag))) in
    (s, r, split, (back_is ∙ cut.1 ∙ left, scalars-right s r (sym (ap scalars split) ∙ is.1)), subst (LANGTAG (64 ∷ s)) (ap (map to_ascii_lowercase) (sym cut.0 ∙ sym prefix_is) ∙ sym text_is) (rest-langtag s tag))

-- the tag that stands there is read
pub tag-stands : (b s r tag : List ℕ) → IsText b (s ++ r) → LANGTAG (64 ∷ s) tag → EndsTag (encodes r) → (past_tag true true b ≡ Some (encodes r)) × (tag ≡ map to_ascii_lowercase s) × (b ≡ s ++ encodes r)
tag-stands b s r tag is langtag ends =
    let (rest, lower) = langtag-rest s tag langtag in
    let bytes : b ≡ s ++ encodes r = is.0 ∙ encodes-append s r ∙ ap (λ (z : List ℕ). z ++ encodes r) (rest_bytes s true true rest) in
    (ap (past_tag true true) bytes ∙ rest-whole s true true (encodes r) rest ends, lower, bytes)

pub tag-only : (b rest s r tag prefix back text : List ℕ) → past_tag true true b ≡ Some rest → prefix ≡ take (length b - length rest) b → back ≡ drop (length b - length rest) b → text ≡ map to_ascii_lowercase prefix → IsText b (s ++ r) → LANGTAG (64 ∷ s) tag → EndsTag (encodes r) → (text ≡ tag) × (back ≡ encodes r)
tag-only b rest s r tag prefix back text read prefix_is back_is text_is is langtag ends =
    let (whole, lower, bytes) = tag-stands b s r tag is langtag ends in
    let same : rest ≡ encodes r = some_same rest (encodes r) (sym read ∙ whole) in
    let cut = cut_at b s rest (bytes ∙ ap (λ (z : List ℕ). s ++ z) (sym same)) in
    (text_is ∙ ap (map to_ascii_lowercase) (prefix_is ∙ cut.0) ∙ sym lower, back_is ∙ cut.1 ∙ same)

pub tag-none : (b s r tag : List ℕ) → past_tag true true b ≡ None → IsText b (s ++ r) → LANGTAG (64 ∷ s) tag → EndsTag (encodes r) → ⊥
tag-none b s r tag none is langtag ends = none_some (encodes r) (sym none ∙ (tag-stands b s r tag is langtag ends).0)

pub tag-within : (b rest : List ℕ) → past_tag true true b ≡ Some rest → length rest ≤ length b
tag-within b rest read =
    let (s, parts, tag) = tag-read b true true rest read in
    let size : length b ≡ length s + length rest = ap length parts ∙ length-append s rest in
    omega (arith, size)

-- a tag ends where a character does
pub tag-boundary : (b rest : List ℕ) → IsUtf8 b → past_tag true true b ≡ Some rest → IsCharBoundary b (length b - length rest)
tag-boundary b rest utf8 read =
    let (s, parts, tag) = tag-read b true true rest read in
    let own = rest_bytes s true true tag in
    let size : length b ≡ length s + length rest = ap length parts ∙ length-append s rest in
    let count : length (encodes s) ≡ length b - length rest = ap length own ∙ omega (arith, size) in
    subst (IsCharBoundary b) count (seam s rest b utf8 (parts ∙ ap (λ (z : List ℕ). z ++ rest) (sym own)))
