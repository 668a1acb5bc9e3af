-- Numbers in a list.
use Rattle.std.specs.Prelude.{◌≡◌, ℕ, Bool, false, List, Option, None, Some, nat_eq, slice_index_or}
use Rattle.std.specs.List.{list_any, IsDistinct}

-- whether the number stands in the list
abbrev pub has : List ℕ → ℕ → Bool
has xs n = list_any (nat_eq n) xs

-- what a list has at a place, and none past its end
abbrev pub at : List (Option ℕ) → ℕ → Option ℕ
at xs n = slice_index_or xs n None

-- whether this is the number n
abbrev pub is_this : ℕ → Option ℕ → Bool
is_this n None = false
is_this n (Some m) = nat_eq n m

-- the list has just the numbers that pass, each once
pub record Lists (p : ℕ → Bool) (xs : List ℕ) : Type 0 where
  -- no number stands twice
  pub once : IsDistinct nat_eq xs
  -- a number is listed exactly if it passes
  pub members : (n : ℕ) → has xs n ≡ p n
