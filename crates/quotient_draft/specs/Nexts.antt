-- The next number that passes a test.
use Rattle.std.specs.Prelude.{◌≡◌, ℕ, ◌<◌, ◌≤◌, Bool, true, false, Option, None, Some, nat_lt, ◌&&◌, ◌||◌}

-- a is the least number from this one on that passes
pub record IsLeastFrom (p : ℕ → Bool) (from a : ℕ) : Type 0 where
  -- it isn't below `from`
  pub from_on : from ≤ a
  -- it passes
  pub passes : p a ≡ true
  -- none between the two does
  pub least : (x : ℕ) → from ≤ x → x < a → p x ≡ false

-- the least number from this one on that passes, and none where there is none
abbrev pub IsNext : (ℕ → Bool) → ℕ → Option ℕ → Type 0
IsNext p from None = (x : ℕ) → from ≤ x → p x ≡ false
IsNext p from (Some a) = IsLeastFrom p from a

-- whether a number is below the one that was found, if one was
abbrev pub is_below : Option ℕ → ℕ → Bool
is_below None a = true
is_below (Some next) a = nat_lt a next

-- Whatever was looked through before: once these numbers are looked through too, the second result is the least from
-- this one on that passes, where the first was it before.
abbrev pub LooksThrough : (ℕ → Bool) → (ℕ → Bool) → ℕ → Option ℕ → Option ℕ → Type 0
LooksThrough numbers passes from before result =
    (seen : ℕ → Bool) → IsNext (λ a. seen a && passes a) from before → IsNext (λ a. (seen a || numbers a) && passes a) from result
