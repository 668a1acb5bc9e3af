-- Keys that are carried over to new numbers.
use Rattle.std.specs.Prelude.{ℕ, ◌≡◌, ◌+◌, ◌*◌, ◌/◌, ◌<◌, ◌≤◌, ◌⊎◌, List, length, take, Option, Some, is_some, count_by, slice_get}
use Rattle.key_table.specs.NumberedKeys.{AreDistinct}
use Rattle.keyed_quotient.specs.KeyedQuotients.{key_at}
use Rattle.keyed_quotient.specs.Numberings.{Numbering, block_keys, Leads}

-- The new numbers have the keys of the blocks below b, each once and leading to its block, and no other keys.
pub record AreCarried (labels : List (Option ℕ)) (old new : Numbering) (b : ℕ) : Type 0 where
  -- no key stands twice
  pub distinct : AreDistinct new.table
  -- each number of a key has a place for its block
  pub fits : length new.table ≤ length new.block_of
  -- each block has a place for its number
  pub span : length labels ≤ length new.number_of
  -- the key of each block below b stands there, and leads to it and back
  pub leads : (c : ℕ) (key : List ℕ) → c < b → key_at (block_keys labels old) c ≡ Some key → (k : ℕ) × Leads new k c key
  -- there are no other keys
  pub only : (k : ℕ) (key : List ℕ) → slice_get new.table k ≡ Some key → (c : ℕ) × (c < b) × (key_at (block_keys labels old) c ≡ Some key)
  -- there are as many keys as such blocks
  pub count : length new.table ≡ count_by is_some (take b labels)

-- at most one and a half times as many keys as blocks, or at most 64 more than half as many as numbers below the span
abbrev pub AreFew : ℕ → ℕ → ℕ → Type 0
AreFew keys blocks span = (keys ≤ 64 + span / 2) ⊎ (keys * 2 ≤ blocks * 3)
