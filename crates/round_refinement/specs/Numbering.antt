-- Blocks that are numbered by the keys of their members.
use Rattle.std.specs.Prelude.{ℕ, ◌≡◌, ◌<◌, ◌≤◌, Bool, List, length, Option, None, Some, IsSome, slice_get}
use Rattle.graph_spec.specs.Members.{at}
use Rattle.bisim_spec.specs.NodeKeys.{IsKey}

-- The blocks of next are numbered by the keys of their members, where key gives the key of a number, or none: a node's block
-- has the node's key, and each number with a key is the block of some node.
pub record AreNumbered (own : ℕ → Option ℕ) (base : List (Option ℕ)) (neighbour_of : ℕ → ℕ → Bool) (next : List (Option ℕ))
    (key : ℕ → Option (List ℕ)) : Type 0 where
  -- a node without a number of its own has no block
  pub none : (n : ℕ) → own n ≡ None → at next n ≡ None
  -- any other has the block that is the number of its key
  pub some : (n b : ℕ) → own n ≡ Some b
      → (k : ℕ) × (numbers : List ℕ) × (at next n ≡ Some k) × (key k ≡ Some numbers) × IsKey own base neighbour_of n numbers
  -- each number with a key is the block of some node
  pub inhabited : (k : ℕ) → IsSome (key k) → (n : ℕ) × (at next n ≡ Some k)

-- One more node is numbered: keys that were there stay; the number is that of the node's key, and none where the node has
-- no block; a key that is new is that of the node.
pub record Numbers (own : ℕ → Option ℕ) (base : List (Option ℕ)) (neighbour_of : ℕ → ℕ → Bool) (n : ℕ) (old new : List (List ℕ))
    (number : Option ℕ) : Type 0 where
  -- each key that was there keeps its number
  pub stay : (k : ℕ) (key : List ℕ) → slice_get old k ≡ Some key → slice_get new k ≡ Some key
  -- a node without a number of its own gets none
  pub none : own n ≡ None → number ≡ None
  -- any other gets the number of its key
  pub some : (b : ℕ) → own n ≡ Some b
      → (k : ℕ) × (key : List ℕ) × (number ≡ Some k) × (slice_get new k ≡ Some key) × IsKey own base neighbour_of n key
  -- a key that is new is the one of this node
  pub fresh : (k : ℕ) → length old ≤ k → k < length new → number ≡ Some k

-- each value is below the span
abbrev pub AreBelow : List (Option ℕ) → ℕ → Type 0
AreBelow keys span = (n b : ℕ) → at keys n ≡ Some b → b < span
