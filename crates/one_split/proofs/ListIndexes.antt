-- Places in a list of distinct numbers.
use Rattle.std.proofs.Common.{◌≡◌, ℕ, zero, suc, ◌<◌, List, [], ◌∷◌, length, refl, sym, ap, arith, inl, inr, true, cond, true≢false}
use Rattle.std.specs.Prelude.{nat_eq, slice_index}
use Rattle.std.specs.List.{IsDistinct}
use Rattle.std.proofs.lemmas.Bool.Decides.{eqb_tells}
use Rattle.std.proofs.lemmas.Map.Keys.{IsDistinct-tail}
use Rattle.graph_spec.specs.Members.{has}
use Rattle.one_spec.proofs.Sums.{rest_apart}

-- the first place of a number
abbrev pub place_in : List ℕ → ℕ → ℕ
place_in [] n = 0
place_in (x ∷ xs) n = cond (nat_eq n x) 0 (suc (place_in xs n))

pub place_found : (xs : List ℕ) (n : ℕ) → has xs n ≡ true → (place_in xs n < length xs) × (slice_index xs (place_in xs n) ≡ n)
place_found [] n h = absurd (true≢false (sym h))
place_found (x ∷ xs) n h = elim (eqb_tells n x) [
  | inl s ↦ rw s.0 (omega arith, sym s.1)
  | inr d ↦ (
      let there : has xs n ≡ true = rw d.0 at h in
      let r = place_found xs n there in
      rw d.0 ((let l = r.0 in omega arith), r.1))
]

pub has_place : (xs : List ℕ) (i : ℕ) → i < length xs → has xs (slice_index xs i) ≡ true
has_place [] i h = absurd (omega (arith, h))
has_place (x ∷ xs) zero h = elim (eqb_tells x x) [ inl s ↦ rw s.0 refl | inr d ↦ absurd (d.1 refl) ]
has_place (x ∷ xs) (suc i) h = elim (eqb_tells (slice_index xs i) x) [
  | inl s ↦ rw s.0 refl
  | inr d ↦ rw d.0 (has_place xs i (omega (arith, h)))
]

pub place_is : (xs : List ℕ) (i : ℕ) → IsDistinct nat_eq xs → i < length xs → place_in xs (slice_index xs i) ≡ i
place_is [] i d h = absurd (omega (arith, h))
place_is (x ∷ xs) zero d h = elim (eqb_tells x x) [ inl s ↦ rw s.0 refl | inr f ↦ absurd (f.1 refl) ]
place_is (x ∷ xs) (suc i) d h =
    let below : i < length xs = omega (arith, h) in
    let other = rest_apart x (slice_index xs i) xs d (has_place xs i below) in
    elim (eqb_tells (slice_index xs i) x) [
      | inl s ↦ absurd (other s.1)
      | inr f ↦ rw f.0 (ap suc (place_is xs i (IsDistinct-tail nat_eq x xs d) below))
    ]
