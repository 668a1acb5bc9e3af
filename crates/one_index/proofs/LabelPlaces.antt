-- Blocks whose members have one label have one number for it.
use Rattle.std.proofs.Common.{◌≡◌, ℕ, ◌<◌, List, Some, refl, sym, ◌∙◌, ap, arith, inl, inr, false, get_or}
use Rattle.std.specs.Prelude.{slice_get, bytes_eq}
use Rattle.std.specs.List.{IsDistinct}
use Rattle.std.proofs.lemmas.Bool.{cases_lt, both_ways}
use Rattle.std.proofs.lemmas.Map.Keys.{apart_from_distinct}
use Rattle.std.proofs.lemmas.Option.{slice_get_within, get_or_from_slice_get}
use Rattle.std.proofs.lemmas.Slice.Eq.{bytes_eq-Decides}

not_before : (texts : List (List ℕ)) (i j : ℕ) (t : List ℕ) → IsDistinct bytes_eq texts → slice_get texts i ≡ Some t → slice_get texts j ≡ Some t → i < j → ⊥
not_before texts i j t d ei ej h =
    let apart : bytes_eq (get_or texts i t) (get_or texts j t) ≡ false = apart_from_distinct bytes_eq texts i j t d h (slice_get_within texts j t ej) in
    let a = get_or_from_slice_get texts i t t ei in
    let b = get_or_from_slice_get texts j t t ej in
    let same : bytes_eq t t ≡ false = sym (ap (λ x. bytes_eq x (get_or texts j t)) a ∙ ap (bytes_eq t) b) ∙ apart in
    both_ways (bytes_eq t t) same ((bytes_eq-Decides t t).1 refl)

-- a text has one place among distinct texts
pub one_place : (texts : List (List ℕ)) (i j : ℕ) (t : List ℕ) → IsDistinct bytes_eq texts → slice_get texts i ≡ Some t → slice_get texts j ≡ Some t → i ≡ j
one_place texts i j t d ei ej = elim (cases_lt i j) [
  | inl before ↦ absurd (not_before texts i j t d ei ej before)
  | inr back ↦ elim (cases_lt j i) [
    | inl after ↦ absurd (not_before texts j i t d ej ei after)
    | inr here ↦ omega (arith, back, here)
  ]
]
