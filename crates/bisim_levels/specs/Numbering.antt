-- Blocks that are numbered by the keys of their members.
use Rattle.std.specs.Prelude.{ℕ, ◌≡◌, ◌<◌, ◌≤◌, Bool, List, length, Option, None, Some, IsSome, slice_get}
use Rattle.graph_spec.specs.Members.{at}
use Rattle.bisim_spec.specs.NodeKeys.{IsKey}

-- The blocks of next are numbered by the keys of their members, where key gives the key of a number, or none: a node's block
-- has the node's key, and each number with a key is the block of some node.
pub record AreNumberedBy (own : ℕ → Option ℕ) (HasKey : ℕ → List ℕ → Type 0) (next : List (Option ℕ)) (key : ℕ → Option (List ℕ)) : Type 0 where
  -- what has no block gets none
  pub none : (n : ℕ) → own n ≡ None → at next n ≡ None
  -- a node with a block gets the number of its key
  pub some : (n b : ℕ) → own n ≡ Some b
      → (k : ℕ) × (numbers : List ℕ) × (at next n ≡ Some k) × (key k ≡ Some numbers) × HasKey n numbers
  -- each number with a key is that of some node
  pub inhabited : (k : ℕ) → IsSome (key k) → (n : ℕ) × (at next n ≡ Some k)

-- the same by the blocks of neighbours of one kind
abbrev pub AreNumbered : (ℕ → Option ℕ) → List (Option ℕ) → (ℕ → ℕ → Bool) → List (Option ℕ) → (ℕ → Option (List ℕ)) → Type 0
AreNumbered own base neighbour_of = AreNumberedBy own (IsKey own base neighbour_of)

-- the blocks are the numbers below the count, each with a member
pub record AreBlocksBelow (next : List (Option ℕ)) (count : ℕ) : Type 0 where
  -- each block is below the count
  pub below : (n b : ℕ) → at next n ≡ Some b → b < count
  -- each number below it has a member
  pub inhabited : (b : ℕ) → b < count → (n : ℕ) × (at next n ≡ Some b)

-- One more node is numbered: keys that were there stay; the number is that of the node's key, and none where the node has
-- no block; a key that is new is that of the node.
pub record NumbersBy (own : ℕ → Option ℕ) (HasKey : ℕ → List ℕ → Type 0) (n : ℕ) (old new : List (List ℕ)) (number : Option ℕ) : Type 0 where
  -- each key that was there keeps its number
  pub stay : (k : ℕ) (key : List ℕ) → slice_get old k ≡ Some key → slice_get new k ≡ Some key
  -- a node without a block gets none
  pub none : own n ≡ None → number ≡ None
  -- any other gets the number of its key
  pub some : (b : ℕ) → own n ≡ Some b
      → (k : ℕ) × (key : List ℕ) × (number ≡ Some k) × (slice_get new k ≡ Some key) × HasKey n key
  -- a key that is new is the one of this node
  pub fresh : (k : ℕ) → length old ≤ k → k < length new → number ≡ Some k
