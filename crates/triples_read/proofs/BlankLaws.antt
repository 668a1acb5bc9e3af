-- Blanks at the front.
use Rattle.std.proofs.Common.{◌≡◌, ◌<◌, ◌+◌, ◌-◌, ℕ, suc, List, [], ◌∷◌, ◌++◌, length, drop, Bool, true, false, cond, refl, sym, ◌∙◌, ap, subst, arith, ◌⊎◌, inl, inr, length-append}
use Rattle.std.specs.Prelude.{nat_eq, IsUtf8}
use Rattle.std.specs.Str.{IsCharBoundary}
use Rattle.std.specs.List.{prefix_len}
use Rattle.std.specs.Char.{IsScalar}
use Rattle.std.proofs.Math.Utf8.{scalars, encodes}
use Rattle.std.proofs.lemmas.Str.{encode_ascii, encodes-append}
use Rattle.std.proofs.lemmas.Bool.{eqb-true}
use Rattle.std.proofs.lemmas.List.{append-nil, length-drop}
use Rattle.std.proofs.lemmas.List.Sums.{prefix_len-le-length}
use Rattle.graph_spec.specs.Words.{is_blank}
use Rattle.triples_read.specs.Terminals.{AllOf, Blanks}
use Rattle.triples_read.specs.ByteReaders.{past_blanks}
use Rattle.triples_read.specs.SpelledPrefixes.{Prefix, IsText}
use Rattle.triples_read.proofs.Basics.{bool_cases, scalars-right, split-encodes, seam}

-- characters of a class of ASCII are their own bytes
pub own_bytes : (class : ℕ → Bool) → ((c : ℕ) → class c ≡ true → c < 128) → (xs : List ℕ) → AllOf class xs → encodes xs ≡ xs
own_bytes class small [] all = refl
own_bytes class small (x ∷ xs) all = rw (encode_ascii x (small x all.0.1), own_bytes class small xs all.1) refl

pub blank_is : (b : ℕ) → is_blank b ≡ true → (b ≡ 32) ⊎ (b ≡ 9)
blank_is b h = elim (bool_cases (nat_eq b 32)) [ inl e ↦ inl (eqb-true b 32 e) | inr e ↦ inr (eqb-true b 9 (sym (rw e refl) ∙ h)) ]

pub blank_small : (b : ℕ) → is_blank b ≡ true → b < 128
blank_small b h = elim (blank_is b h) [ inl e ↦ omega (arith, e) | inr e ↦ omega (arith, e) ]

blank_scalar : (b : ℕ) → is_blank b ≡ true → IsScalar b
blank_scalar b h = elim (blank_is b h) [ inl e ↦ subst IsScalar (sym e) refl | inr e ↦ subst IsScalar (sym e) refl ]

pub blanks_bytes : (gap : List ℕ) → Blanks gap → encodes gap ≡ gap
blanks_bytes gap all = own_bytes is_blank blank_small gap all

pub past-blank : (b : ℕ) (bs : List ℕ) → is_blank b ≡ true → past_blanks (b ∷ bs) ≡ past_blanks bs
past-blank b bs e = rw e refl

pub past-other : (b : ℕ) (bs : List ℕ) → is_blank b ≡ false → past_blanks (b ∷ bs) ≡ b ∷ bs
past-other b bs e = rw e refl

blanks-prefix : (bytes : List ℕ) → (gap : List ℕ) × (bytes ≡ gap ++ past_blanks bytes) × Blanks gap
blanks-prefix [] = ([], refl, tt)
blanks-prefix (b ∷ bs) =
    elim (bool_cases (is_blank b)) [
      | inl e ↦ (
          let (gap, parts, all) = blanks-prefix bs in
          (b ∷ gap, ap (λ (z : List ℕ). b ∷ z) parts ∙ ap (λ (z : List ℕ). b ∷ (gap ++ z)) (sym (past-blank b bs e)), ((blank_scalar b e, e), all)))
      | inr e ↦ ([], sym (past-other b bs e), tt)
    ]

-- the blanks that are skipped
pub skip-found : (b cs : List ℕ) → IsText b cs → Prefix Blanks cs (past_blanks b)
skip-found b cs is =
    let (gap, parts, all) = blanks-prefix b in
    let (r, split, left) = split-encodes gap cs (past_blanks b) (sym is.0 ∙ parts ∙ ap (λ (z : List ℕ). z ++ past_blanks b) (sym (blanks_bytes gap all))) in
    (gap, r, split, (left, scalars-right gap r (sym (ap scalars split) ∙ is.1)), all)

skip-gap : (gap rest : List ℕ) → Blanks gap → past_blanks (gap ++ rest) ≡ past_blanks rest
skip-gap [] rest all = refl
skip-gap (b ∷ gap) rest all = past-blank b (gap ++ rest) all.0.1 ∙ skip-gap gap rest all.1

-- all blanks are skipped
pub skip-whole : (b gap : List ℕ) (c : ℕ) (r : List ℕ) → b ≡ encodes (gap ++ c ∷ r) → Blanks gap → c < 128 → is_blank c ≡ false → past_blanks b ≡ encodes (c ∷ r)
skip-whole b gap c r is all small other =
    ap past_blanks (is ∙ encodes-append gap (c ∷ r) ∙ ap (λ (z : List ℕ). z ++ encodes (c ∷ r)) (blanks_bytes gap all))
    ∙ skip-gap gap (encodes (c ∷ r)) all
    ∙ rw (encode_ascii c small) (past-other c (encodes r) other)

pub skip-end : (b gap : List ℕ) → b ≡ encodes gap → Blanks gap → past_blanks b ≡ []
skip-end b gap is all = ap past_blanks (is ∙ blanks_bytes gap all ∙ sym (append-nil gap)) ∙ skip-gap gap [] all

drop-run : (b : ℕ) (bs : List ℕ) (n : ℕ) → drop (1 + n) (b ∷ bs) ≡ drop n bs
drop-run b bs n = let one : 1 + n ≡ suc n = omega arith in ap (λ (k : ℕ). drop k (b ∷ bs)) one

-- the blanks in front are counted
pub blanks-counted : (xs : List ℕ) → past_blanks xs ≡ drop (prefix_len is_blank xs) xs
blanks-counted [] = refl
blanks-counted (b ∷ bs) =
    elim (bool_cases (is_blank b)) [
      | inl e ↦ past-blank b bs e ∙ blanks-counted bs ∙ sym (drop-run b bs (prefix_len is_blank bs)) ∙ ap (λ (t : Bool). drop (cond t (1 + prefix_len is_blank bs) 0) (b ∷ bs)) (sym e)
      | inr e ↦ past-other b bs e ∙ ap (λ (t : Bool). drop (cond t (1 + prefix_len is_blank bs) 0) (b ∷ bs)) (sym e)
    ]

pub blanks-boundary : (text : List ℕ) (n : ℕ) → IsUtf8 text → n ≡ prefix_len is_blank text → IsCharBoundary text n
blanks-boundary text n utf8 is =
    let (gap, parts, all) = blanks-prefix text in
    let own : encodes gap ≡ gap = blanks_bytes gap all in
    let size : length text ≡ length gap + length (past_blanks text) = ap length parts ∙ length-append gap (past_blanks text) in
    let left : length (past_blanks text) ≡ length text - n = ap length (blanks-counted text) ∙ ap (λ (i : ℕ). length (drop i text)) (sym is) ∙ length-drop n text in
    let count : length (encodes gap) ≡ n = ap length own ∙ omega (arith, size, left, prefix_len-le-length is_blank text, is) in
    subst (IsCharBoundary text) count (seam gap (past_blanks text) text utf8 (parts ∙ ap (λ (z : List ℕ). z ++ past_blanks text) (sym own)))
