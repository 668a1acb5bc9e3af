-- A list from which a number is taken.
use Rattle.std.proofs.Common.{◌≡◌, ℕ, true, false, List, ◌∷◌, None, Some, refl, sym, ap, ◌∙◌, nat_eq, get_or, subst}
use Rattle.std.specs.Prelude.{◌||◌, ◌&&◌, not, position, slice_index_or}
use Rattle.std.specs.List.{IsDistinct, swap_remove}
use Rattle.std.proofs.lemmas.Cmp.{nat_eq_equiv}
use Rattle.std.proofs.lemmas.Bool.{eqb-true}
use Rattle.std.proofs.lemmas.List.Quantifiers.{position-Some}
use Rattle.std.proofs.lemmas.List.Sorted.{IsPermutation-swap_remove, list_any-IsPermutation}
use Rattle.std.proofs.lemmas.Map.Keys.{IsDistinct-IsPermutation, IsDistinct-head, IsDistinct-tail}
use Rattle.graph_spec.specs.Members.{has}
use Rattle.cell_lists.specs.Segments.{IsWithout}
use Rattle.cell_lists.proofs.Positions.{position-none}
use Rattle.graph_spec.proofs.ListLemmas.{none-has}

-- what was one number and others has just the others
others : (n : ℕ) (old new : List ℕ) → has new n ≡ false → ((m : ℕ) → has old m ≡ (nat_eq m n || has new m)) → (m : ℕ) → has new m ≡ (not (nat_eq m n) && has old m)
others n old new none is m =
    elim (nat_eq m n) as (λ b. nat_eq m n ≡ b → has old m ≡ (b || has new m) → has new m ≡ (not b && has old m)) [
      | true ↦ λ q e. ap (has new) (eqb-true m n q) ∙ none
      | false ↦ λ q e. sym e
    ] refl (is m)

-- the number is at that place, and the last one comes there
pub taken : (xs new : List ℕ) (n i d : ℕ) → IsDistinct nat_eq xs → position (nat_eq n) xs ≡ Some i → d ≡ slice_index_or xs i d → new ≡ swap_remove xs i d → IsWithout xs new n
taken xs new n i d once at is e =
    let p = position-Some (nat_eq n) xs i d at in
    let same : n ≡ d = eqb-true n (get_or xs i d) p.1 ∙ sym is in
    let moved = IsPermutation-swap_remove xs i d p.0 is in
    let d2 = IsDistinct-IsPermutation nat_eq nat_eq_equiv.symm xs (d ∷ swap_remove xs i d) moved once in
    let none = none-has d (swap_remove xs i d) (IsDistinct-head nat_eq d (swap_remove xs i d) d2) in
    subst (λ l. IsWithout xs l n) (sym e) (subst (IsWithout xs (swap_remove xs i d)) (sym same) (record {
      once = IsDistinct-tail nat_eq d (swap_remove xs i d) d2;
      members = others d xs (swap_remove xs i d) none (λ m. list_any-IsPermutation (nat_eq m) xs (d ∷ swap_remove xs i d) moved);
    }))

-- the number isn't there
pub untaken : (xs : List ℕ) (n : ℕ) → IsDistinct nat_eq xs → position (nat_eq n) xs ≡ None → IsWithout xs xs n
untaken xs n once at =
    let none = position-none (nat_eq n) xs at in
    record {
      once = once;
      members = λ m. elim (nat_eq m n) as (λ b. nat_eq m n ≡ b → has xs m ≡ (not b && has xs m)) [
        | true ↦ λ q. ap (has xs) (eqb-true m n q) ∙ none
        | false ↦ λ q. refl
      ] refl;
    }
