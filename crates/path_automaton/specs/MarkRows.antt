-- Words as bits, and tables of marks: for each state, by its number, whether each place is marked.
use Rattle.std.specs.Prelude.{ℕ, ◌*◌, ◌/◌, ◌%◌, ◌≡◌, ◌≤◌, ◌<◌, ◌⊎◌, Bool, true, false, List, length, map, ◌==◌, slice_index, slice_index_or, count_by, []}
use Rattle.std.specs.List.{range_with_len, sum_by}
use Rattle.std.specs.Int.{bit_at}

-- bit n of the words, counted from the lowest bit of the first
abbrev pub bit_of : List ℕ → ℕ → Bool
bit_of words n = bit_at (slice_index words (n / 64)) (n % 64) == 1

-- the first bits
unfoldable pub flags_of : ℕ → List ℕ → List Bool
flags_of width words = map (bit_of words) (range_with_len 0 width)

-- there are no words, or enough of them
abbrev pub AreReady : ℕ → List ℕ → Type 0
AreReady width words = (length words ≡ 0) ⊎ (width ≤ 64 * length words)

-- the marks of a state
abbrev pub row : List (List Bool) → ℕ → List Bool
row marks s = slice_index_or marks s []

-- the place is marked in the row
abbrev pub IsSet : List Bool → ℕ → Type 0
IsSet flags v = slice_index_or flags v false ≡ true

-- the state is marked at the place
abbrev pub IsMarked : List (List Bool) → ℕ → ℕ → Type 0
IsMarked marks s v = IsSet (row marks s) v

-- how many are set
unfoldable pub row_members : List Bool → ℕ
row_members flags = count_by (λ b. b) flags

-- how many pairs are marked
unfoldable pub members : List (List Bool) → ℕ
members marks = sum_by row_members marks

-- how many pairs there are
unfoldable pub pairs : List (List Bool) → ℕ
pairs marks = sum_by length marks

-- there is a mark for each of so many states at each of so many places
abbrev pub HasRows : ℕ → ℕ → List (List Bool) → Type 0
HasRows states width marks = (s : ℕ) → s < states → width ≤ length (row marks s)
