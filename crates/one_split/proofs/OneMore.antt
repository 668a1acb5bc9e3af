-- Lists of distinct numbers with one more.
use Rattle.std.proofs.Common.{◌≡◌, ℕ, Bool, true, false, List, [], ◌∷◌, ◌++◌, refl, ap, ◌∙◌, nat_eq}
use Rattle.std.specs.Prelude.{◌||◌}
use Rattle.std.specs.List.{IsDistinct}
use Rattle.std.proofs.lemmas.Cmp.{nat_eq_equiv}
use Rattle.std.proofs.lemmas.Map.Keys.{IsDistinct-push}
use Rattle.graph_spec.specs.Members.{has, Lists}

swap : (x y z : Bool) → (x || (y || z)) ≡ (y || (x || z))
swap true true z = refl
swap true false z = refl
swap false true z = refl
swap false false z = refl

has_last : (xs : List ℕ) (l m : ℕ) → has (xs ++ l ∷ []) m ≡ (nat_eq m l || has xs m)
has_last [] l m = refl
has_last (x ∷ xs) l m = ap (λ b. nat_eq m x || b) (has_last xs l m) ∙ swap (nat_eq m x) (nat_eq m l) (has xs m)

pub and_one : (xs : List ℕ) (l : ℕ) → IsDistinct nat_eq xs → has xs l ≡ false → Lists (λ m. nat_eq m l || has xs m) (xs ++ l ∷ [])
and_one xs l d h = record { once = IsDistinct-push nat_eq_equiv xs l d h; members = λ m. has_last xs l m }
