-- The place of the first element that passes a test, by recursion.
use Rattle.std.proofs.Common.{◌≡◌, ℕ, suc, ◌+◌, Bool, true, false, cond, List, ◌∷◌, length, Some, None, option_map, refl, ap, ◌∙◌, arith}
use Rattle.std.specs.Prelude.{not, nat_lt, position}
use Rattle.std.specs.List.{position_or_len}
use Rattle.std.proofs.lemmas.Bool.Decides.{nat_tests}

shifted : (k n : ℕ) → cond (nat_lt (1 + k) (suc n)) (Some (1 + k)) None ≡ option_map suc (cond (nat_lt k n) (Some k) None)
shifted k n = ap (λ b. cond b (Some (1 + k)) None) more ∙ by (nat_lt k n)
  where
    more : nat_lt (1 + k) (suc n) ≡ nat_lt k n
    more = grind (arith, nat_tests)

    by : (b : Bool) → cond b (Some (1 + k)) None ≡ option_map suc (cond b (Some k) None)
    by true = ap Some (omega arith)
    by false = refl

pub position-cons : {X : Type 0} (p : X → Bool) (x : X) (xs : List X) → position p (x ∷ xs) ≡ cond (p x) (Some 0) (option_map suc (position p xs))
position-cons p x xs = by (p x)
  where
    first : nat_lt 0 (suc (length xs)) ≡ true
    first = grind (arith, nat_tests)

    by : (b : Bool) → cond (nat_lt (cond (not b) (1 + position_or_len p xs) 0) (suc (length xs))) (Some (cond (not b) (1 + position_or_len p xs) 0)) None ≡ cond b (Some 0) (option_map suc (position p xs))
    by true = ap (λ b. cond b (Some 0) None) first
    by false = shifted (position_or_len p xs) (length xs)
