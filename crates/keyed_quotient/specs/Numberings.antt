-- How keys lead to blocks, and back.
use Rattle.std.specs.Prelude.{ℕ, ◌≡◌, ◌≢◌, ◌+◌, ◌<◌, ◌≤◌, List, [], ◌∷◌, length, Option, None, Some, IsSome, is_some, option_and_then, cond, slice_get, slice_set}
use Rattle.graph_spec.specs.Members.{at}
use Rattle.key_table.specs.NumberedKeys.{AreDistinct}
use Rattle.keyed_quotient.specs.KeyedQuotients.{ReservedKeys}

-- keys and their numbers, and which number and which block lead to each other
pub record Numbering : Type 0 where
  -- the keys, by their numbers
  pub table : List (List ℕ)
  -- the block of each number of a key
  pub block_of : List ℕ
  -- the number of the key of each block
  pub number_of : List ℕ

-- what is reserved
abbrev pub key_reserved : Numbering → ReservedKeys
key_reserved t = record { known = t.table; span = length t.number_of }

-- the key of the number that is kept for a block
abbrev pub numbered_key : Numbering → ℕ → Option (List ℕ)
numbered_key t b = option_and_then (slice_get t.table) (slice_get t.number_of b)

-- for each number from this one on the key that f gives, and none where it is no block
abbrev pub keys_from : (ℕ → Option (List ℕ)) → ℕ → List (Option ℕ) → List (Option (List ℕ))
keys_from f b [] = []
keys_from f b (label ∷ labels) = cond (is_some label) (f b) None ∷ keys_from f (b + 1) labels

-- the keys of the blocks with these labels
abbrev pub block_keys : List (Option ℕ) → Numbering → List (Option (List ℕ))
block_keys labels t = keys_from (numbered_key t) 0 labels

-- the number and the block lead to each other, and the number has this key
pub record Leads (t : Numbering) (k b : ℕ) (key : List ℕ) : Type 0 where
  -- the block has this number
  pub number : slice_get t.number_of b ≡ Some k
  -- the number has this block
  pub block : slice_get t.block_of k ≡ Some b
  -- and this key
  pub key_is : slice_get t.table k ≡ Some key

-- Each block has a number that leads back to it. Numbers of which this isn't so have keys that no block has.
pub record IsNumbering (labels : List (Option ℕ)) (t : Numbering) : Type 0 where
  -- no key stands twice
  pub distinct : AreDistinct t.table
  -- each number of a key has a place for its block
  pub fits : length t.table ≤ length t.block_of
  -- each block has a number that leads back to it
  pub blocks : (b : ℕ) → IsSome (at labels b) → (k : ℕ) × (key : List ℕ) × Leads t k b key

-- the tables grow, and what stood in them stays
pub record Grows (old new : Numbering) : Type 0 where
  -- keys keep their numbers
  pub table : (k : ℕ) (key : List ℕ) → slice_get old.table k ≡ Some key → slice_get new.table k ≡ Some key
  -- numbers keep their blocks
  pub block_of : (k b : ℕ) → slice_get old.block_of k ≡ Some b → slice_get new.block_of k ≡ Some b
  -- blocks keep their numbers
  pub number_of : (b k : ℕ) → slice_get old.number_of b ≡ Some k → slice_get new.number_of b ≡ Some k

-- a key that has a number becomes that of a block
pub record Gives (key : List ℕ) (b : ℕ) (old new : Numbering) : Type 0 where
  -- the number of the key
  pub k : ℕ
  -- the key has this number
  pub key_is : slice_get old.table k ≡ Some key
  -- no key comes or goes
  pub table : new.table ≡ old.table
  -- the number leads to the block now
  pub block_of : new.block_of ≡ slice_set old.block_of k b
  -- and the block to the number
  pub number_of : new.number_of ≡ slice_set old.number_of b k

-- no entry below i has this block or this key
abbrev pub IsNoneBelow : List (ℕ × List ℕ) → ℕ → ℕ → List ℕ → Type 0
IsNoneBelow es i b key = (j c : ℕ) (x : List ℕ) → j < i → slice_get es j ≡ Some (c, x) → (c ≢ b) × (x ≢ key)

-- the entries differ in blocks and in keys
pub record AreApart (es : List (ℕ × List ℕ)) : Type 0 where
  -- no two entries have one block
  pub blocks : (i j b : ℕ) (x y : List ℕ) → slice_get es i ≡ Some (b, x) → slice_get es j ≡ Some (b, y) → i ≡ j
  -- no two have one key
  pub keys : (i j b c : ℕ) (x : List ℕ) → slice_get es i ≡ Some (b, x) → slice_get es j ≡ Some (c, x) → i ≡ j

-- the first i entries are given
pub record GivenBelow (es : List (ℕ × List ℕ)) (i : ℕ) (old now : Numbering) : Type 0 where
  -- no key comes or goes
  pub table : now.table ≡ old.table
  -- there are as many places for blocks and for numbers as before
  pub fits : length now.block_of ≡ length old.block_of
  pub span : length now.number_of ≡ length old.number_of
  -- the block of each of the first i entries has its key
  pub given : (j b : ℕ) (key : List ℕ) → j < i → slice_get es j ≡ Some (b, key) → (k : ℕ) × Leads now k b key
  -- a block and a key that led to each other still do, unless one of these entries has either
  pub kept : (k b : ℕ) (key : List ℕ) → Leads old k b key → IsNoneBelow es i b key → Leads now k b key
