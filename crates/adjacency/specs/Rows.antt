-- Rows of numbers that lie in one array, one behind the other.
use Rattle.std.specs.Prelude.{ℕ, zero, suc, ◌<◌, ◌≤◌, List, [], ◌∷◌, ◌++◌, length, map, get_or}
use Rattle.std.specs.List.{slice_range}

-- the rows, where the first begins at a place, and each ends where the next begins
abbrev pub rows_in : ℕ → List ℕ → List ℕ → List (List ℕ)
rows_in from [] items = []
rows_in from (end ∷ ends) items = slice_range items from end ∷ rows_in end ends items

-- each row ends where it begins or behind, and within the array
pub record AreEnds (ends : List ℕ) (count : ℕ) : Type 0 where
  -- no row ends before it begins
  pub rise : (n : ℕ) → n < length ends → get_or (0 ∷ ends) n 0 ≤ get_or ends n 0
  -- no row ends past the array
  pub within : (n : ℕ) → n < length ends → get_or ends n 0 ≤ count

-- the rows that f gives of so many numbers, from one on
abbrev pub rows_of : (ℕ → List ℕ) → ℕ → ℕ → List (List ℕ)
rows_of f from zero = []
rows_of f from (suc count) = f from ∷ rows_of f (suc from) count

-- the row of a number, and an empty one past the end
abbrev pub row : List (List ℕ) → ℕ → List ℕ
row rows n = get_or rows n []

-- each number with those of its row, where the first row is that of a number
abbrev pub edges_in : ℕ → List (List ℕ) → List (ℕ × ℕ)
edges_in from [] = []
edges_in from (r ∷ rows) = map (λ v. (from, v)) r ++ edges_in (suc from) rows
