-- A label's number in a table of distinct texts.
use Rattle.std.proofs.Common.{◌≡◌, ℕ, zero, suc, ◌+◌, ◌<◌, true, false, cond, List, [], ◌∷◌, length, refl, sym, ap, ◌∙◌, subst, arith, true≢false, None, Some, get_or, nat_lt}
use Rattle.std.specs.Prelude.{slice_get, bytes_eq, not}
use Rattle.std.specs.List.{IsDistinct, AllByRecursion, position, position_or_len, prefix_len}
use Rattle.std.proofs.lemmas.Bool.Decides.{nat_tests}
use Rattle.std.proofs.lemmas.List.Quantifiers.{position-Some}
use Rattle.std.proofs.lemmas.Option.{slice_get-get_or, same_Some}
use Rattle.std.proofs.lemmas.Slice.Eq.{bytes_eq-Decides}

all_at : (P : List ℕ → Type 0) (xs : List (List ℕ)) (k : ℕ) (y : List ℕ) → AllByRecursion P xs → slice_get xs k ≡ Some y → P y
all_at P [] k y a e = cc
all_at P (x ∷ xs) zero y a e = let same : x ≡ y = cc in subst P same a.0
all_at P (x ∷ xs) (suc k) y a e = all_at P xs k y a.1 e

differs : (x y : List ℕ) → bytes_eq x y ≡ false → bytes_eq y x ≡ false
differs x y h =
    elim (bytes_eq y x) as (λ b. bytes_eq y x ≡ b → b ≡ false) [
      | true ↦ λ e. absurd (true≢false (sym ((bytes_eq-Decides x y).1 (sym ((bytes_eq-Decides y x).0 e))) ∙ h))
      | false ↦ λ e. refl
    ] refl

-- the place of the text is the first that equals it
place : (t : List ℕ) (texts : List (List ℕ)) (k : ℕ) → IsDistinct bytes_eq texts → slice_get texts k ≡ Some t
    → (position_or_len (bytes_eq t) texts ≡ k) × (k < length texts)
unfolding IsDistinct
place t [] k d e = cc
place t (x ∷ xs) zero d e =
    let same : t ≡ x = cc in
    (ap (λ b. cond (not b) (1 + prefix_len (λ y. not (bytes_eq t y)) xs) 0) ((bytes_eq-Decides t x).1 same), omega arith)
place t (x ∷ xs) (suc k) d e =
    let r = place t xs k d.1 e in
    let other : bytes_eq t x ≡ false = differs x t (all_at (λ y. bytes_eq x y ≡ false) xs k t d.0 e) in
    (ap (λ b. cond (not b) (1 + prefix_len (λ y. not (bytes_eq t y)) xs) 0) other ∙ omega (arith, r.0), omega (arith, r.1))

found : (k m i : ℕ) → k ≡ i → i < m → cond (nat_lt k m) (Some k) None ≡ Some i
found k m i e h = grind (arith, nat_tests)

pub number_is : (t : List ℕ) (texts : List (List ℕ)) (k : ℕ) → IsDistinct bytes_eq texts → slice_get texts k ≡ Some t
    → position (bytes_eq t) texts ≡ Some k
number_is t texts k d e = let p = place t texts k d e in found (position_or_len (bytes_eq t) texts) (length texts) k p.0 p.1

pub text_is : (t : List ℕ) (texts : List (List ℕ)) (k : ℕ) → position (bytes_eq t) texts ≡ Some k → slice_get texts k ≡ Some t
text_is t texts k e =
    let p = position-Some (bytes_eq t) texts k t e in
    slice_get-get_or texts k t p.0 ∙ ap Some (sym ((bytes_eq-Decides t (get_or texts k t)).0 p.1))

-- a text has one number
pub number_one : (t : List ℕ) (texts : List (List ℕ)) (k l : ℕ) → IsDistinct bytes_eq texts → slice_get texts k ≡ Some t → slice_get texts l ≡ Some t → k ≡ l
number_one t texts k l d h e = same_Some k l (sym (number_is t texts k d h) ∙ number_is t texts l d e)
