-- Items by number, each with the hash of its key.
use Rattle.std.specs.Prelude.{◌≡◌, ℕ, ◌+◌, ◌<◌, ◌≤◌, List, [], ◌∷◌, ◌++◌, slice_index_or, Option, None, Some, IfSome}

-- for each number an item, and the hash of its key
pub record Items (X : Type 0) : Type 0 where
  -- the hash of each item's key, in the order of the items
  pub hashes : List ℕ
  -- the items, in the order in which they came
  pub items : List X

-- there is no item yet
abbrev pub no_items : {X : Type 0} → Items X
no_items = record { hashes = []; items = [] }

-- one more item behind the others
abbrev pub with_item : {X : Type 0} → Items X → ℕ → X → Items X
with_item xs hash item = record { hashes = xs.hashes ++ hash ∷ []; items = xs.items ++ item ∷ [] }

-- the hash of the item with the number; 0 past the end
abbrev pub hash_at : List ℕ → ℕ → ℕ
hash_at hashes n = slice_index_or hashes n 0

-- how many numbers there are up to the one that was found; none where none was
abbrev pub count_to : Option ℕ → ℕ
count_to None = 0
count_to (Some n) = n + 1

-- the greatest of the numbers below n that have the hash, and none where none has
pub record IsNewest (hashes : List ℕ) (hash n : ℕ) (found : Option ℕ) : Type 0 where
  -- what is found is below n
  pub below : count_to found ≤ n
  -- it has the hash
  pub has : IfSome found (λ i. hash_at hashes i ≡ hash)
  -- no later one below n has it
  pub covers : (j : ℕ) → j < n → hash_at hashes j ≡ hash → j < count_to found
