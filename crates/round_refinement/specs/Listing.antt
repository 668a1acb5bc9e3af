-- Nodes on the lists of their blocks: items whose hashes are the numbers of blocks.
use Rattle.std.specs.Prelude.{ℕ, ◌≡◌, ◌<◌, ◌⊎◌, true, List, length, Option, Some, slice_get}
use Rattle.hash_index.specs.Items.{Items, hash_at}
use Rattle.graph_spec.specs.Members.{at, has}

-- the item is on the list of number b
pub record IsOn {X : Type 0} (lists : Items X) (b : ℕ) (n : X) : Type 0 where
  -- the place of an item
  pub place : ℕ
  -- there is such an item
  pub within : place < length lists.hashes
  -- it is on the list of b
  pub hash : hash_at lists.hashes place ≡ b
  -- it is this one
  pub item : slice_get lists.items place ≡ Some n

-- each node is on the list of its block, which may have other nodes too
abbrev pub IsListed : List (Option ℕ) → Items ℕ → Type 0
IsListed block lists = (n b : ℕ) → at block n ≡ Some b → IsOn lists b n

-- one more node is on the list of its block, and the others stay
pub record ListsNode (block : Option ℕ) (n : ℕ) (old new : Items ℕ) : Type 0 where
  -- what was on a list stays there
  pub kept : (b m : ℕ) → IsOn old b m → IsOn new b m
  -- if the node has a block, it is on the list of that one
  pub put : (b : ℕ) → block ≡ Some b → IsOn new b n

-- these nodes are on the lists of their blocks, and the others stay
pub record ListsMoved (block : List (Option ℕ)) (moved : List ℕ) (old new : Items ℕ) : Type 0 where
  -- what was on a list stays there
  pub kept : (b m : ℕ) → IsOn old b m → IsOn new b m
  -- each of these nodes that has a block is on the list of that one
  pub put : (n b : ℕ) → has moved n ≡ true → at block n ≡ Some b → IsOn new b n

-- the node is put behind the others, if it is in the block
pub record AddsNode (block : List (Option ℕ)) (b n : ℕ) (old new : List ℕ) : Type 0 where
  -- nodes that were there stay
  pub kept : (m : ℕ) → has old m ≡ true → has new m ≡ true
  -- if the node is in the block, it is there
  pub put : at block n ≡ Some b → has new n ≡ true
  -- each node that has come is in the block
  pub only : (m : ℕ) → has new m ≡ true → has old m ≡ true ⊎ (at block m ≡ Some b)

-- these nodes, and with each that is new its whole block
pub record IsWidened (block : List (Option ℕ)) (old new : List ℕ) : Type 0 where
  -- nodes that were there stay
  pub kept : (n : ℕ) → has old n ≡ true → has new n ≡ true
  -- with each node that has come, all nodes of its block are there
  pub only : (n : ℕ) → has new n ≡ true → has old n ≡ true ⊎ ((b : ℕ) × (at block n ≡ Some b) × ((m : ℕ) → at block m ≡ Some b → has new m ≡ true))
