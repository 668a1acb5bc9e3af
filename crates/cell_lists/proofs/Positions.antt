-- The first place that passes.
use Rattle.std.proofs.Common.{◌≡◌, ℕ, ◌+◌, ◌≤◌, Bool, true, false, cond, List, [], ◌∷◌, length, None, Some, refl, ap, sym, ◌∙◌, arith, nat_lt, nat_eq, not, get_or}
use Rattle.std.specs.Prelude.{position, slice_get, ◌||◌}
use Rattle.std.specs.List.{prefix_len, position_or_len, list_any, IsDistinct}
use Rattle.std.proofs.lemmas.Bool.Decides.{nat_tests}
use Rattle.std.proofs.lemmas.Cmp.{nat_eq_equiv}
use Rattle.std.proofs.lemmas.List.Sums.{position_or_len_is}
use Rattle.std.proofs.lemmas.Map.Keys.{apart_from_distinct}
use Rattle.std.proofs.lemmas.Option.{slice_get_within, get_or_from_slice_get}
use Rattle.graph_spec.proofs.ListLemmas.{is_found}

pub missing : (k m : ℕ) → cond (nat_lt k m) (Some k) None ≡ None → m ≤ k
missing k m e = grind (arith, nat_tests)

pub is_missing : (k m : ℕ) → m ≤ k → cond (nat_lt k m) (Some k) None ≡ None
is_missing k m h = grind (arith, nat_tests)

-- no place passes where none is found
pub absent : {X : Type 0} (p : X → Bool) (xs : List X) → length xs ≤ prefix_len (λ x. not (p x)) xs → list_any p xs ≡ false
absent p [] h = refl
absent p (x ∷ xs) h =
    elim (p x) as (λ b. length (x ∷ xs) ≤ cond (not b) (1 + prefix_len (λ x. not (p x)) xs) 0 → (b || list_any p xs) ≡ false) [
      | true ↦ λ l. absurd (omega arith)
      | false ↦ λ l. absent p xs (omega arith)
    ] h

pub position-none : {X : Type 0} (p : X → Bool) (xs : List X) → position p xs ≡ None → list_any p xs ≡ false
position-none p xs e = absent p xs (missing (position_or_len p xs) (length xs) e)

-- a number is found where it stands, in a list of distinct numbers
pub number-position : (xs : List ℕ) (i n : ℕ) → IsDistinct nat_eq xs → slice_get xs i ≡ Some n → position (nat_eq n) xs ≡ Some i
number-position xs i n d e =
    let w = slice_get_within xs i n e in
    let s = get_or_from_slice_get xs i n n e in
    let at = position_or_len_is (nat_eq n) xs i n (omega arith)
    (λ k h. nat_eq_equiv.symm n (get_or xs k n) ∙ ap (nat_eq (get_or xs k n)) (sym s) ∙ apart_from_distinct nat_eq xs k i n d h w)
    (λ h. ap (nat_eq n) s ∙ nat_eq_equiv.refl n) in
    is_found _ _ i (omega (arith, at, w)) at
