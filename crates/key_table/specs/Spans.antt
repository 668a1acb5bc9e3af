-- Keys in an arena.
use Rattle.std.specs.Prelude.{◌≡◌, ℕ, ◌^◌, ◌<◌, ◌≤◌, List, map, length, slice_index_or, slice_range}
use Rattle.hash_index.specs.Items.{Items, hash_at}
use Rattle.key_table.specs.declared.spans.KeyRange.{KeyRange}
use Rattle.key_table.specs.Hashes.{hash_of}

-- where the key with the number lies; an empty span past the end
abbrev pub span_at : List KeyRange → ℕ → KeyRange
span_at spans i = slice_index_or spans i (record { from = 0; to = 0 })

-- the key that lies there
abbrev pub key_in : List ℕ → KeyRange → List ℕ
key_in arena s = slice_range arena s.from s.to

-- the keys that lie in the spans, in their order
abbrev pub keys_of : List ℕ → List KeyRange → List (List ℕ)
keys_of arena spans = map (key_in arena) spans

-- what every table keeps: distinct keys, with their hashes
pub record IsKeyTable (arena : List ℕ) (index : Items KeyRange) : Type 0 where
  -- each key has a hash
  pub even : length index.hashes ≡ length index.items
  -- the arena has fewer than 2^32 numbers
  pub short : length arena < 2 ^ 32
  -- no span ends before it begins
  pub order : (i : ℕ) → i < length index.items → (span_at index.items i).from ≤ (span_at index.items i).to
  -- each span ends within the arena
  pub within : (i : ℕ) → i < length index.items → (span_at index.items i).to ≤ length arena
  -- each key has the hash of its numbers
  pub hashed : (i : ℕ) → i < length index.items → hash_at index.hashes i ≡ hash_of (key_in arena (span_at index.items i))
  -- equal keys have one number
  pub apart : (i j : ℕ) → i < length index.items → j < length index.items → key_in arena (span_at index.items i) ≡ key_in arena (span_at index.items j) → i ≡ j
