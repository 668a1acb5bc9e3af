-- Members of lists, and where they stand.
use Rattle.std.proofs.Common.{◌≡◌, ℕ, ◌<◌, cond, List, [], ◌∷◌, ◌++◌, length, None, Some, false, refl, ap, ◌∙◌, arith, nat_eq, nat_lt}
use Rattle.std.specs.Prelude.{slice_get, ◌||◌}
use Rattle.std.specs.List.{AllByRecursion}
use Rattle.std.proofs.lemmas.Bool.Decides.{nat_tests}
use Rattle.graph_spec.specs.Members.{has}

-- a number that each one differs from isn't among them
pub none-has : (n : ℕ) (xs : List ℕ) → AllByRecursion (λ y. nat_eq n y ≡ false) xs → has xs n ≡ false
none-has n [] h = refl
none-has n (x ∷ xs) h = ap (λ b. b || has xs n) h.0 ∙ none-has n xs h.1

pub get_seam : {X : Type 0} (front : List X) (x : X) → slice_get (front ++ x ∷ []) (length front) ≡ Some x
get_seam [] x = refl
get_seam (y ∷ ys) x = get_seam ys x

-- a place k is found where it is below the length m
pub found : (k m i : ℕ) → cond (nat_lt k m) (Some k) None ≡ Some i → (k < m) × (k ≡ i)
found k m i e = grind (arith, nat_tests)

pub is_found : (k m i : ℕ) → k < m → k ≡ i → cond (nat_lt k m) (Some k) None ≡ Some i
is_found k m i h e = grind (arith, nat_tests)
