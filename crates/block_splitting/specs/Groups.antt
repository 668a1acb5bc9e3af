-- Nodes that are grouped by their keys.
use Rattle.std.specs.Prelude.{ℕ, ◌≡◌, ◌<◌, Bool, true, List, Option, Some, IsSome, slice_get, slice_index}
use Rattle.graph_spec.specs.Graphs.{Graph}
use Rattle.graph_spec.specs.Members.{at}
use Rattle.label_graph.specs.GraphViews.{label_number}
use Rattle.key_table.specs.NumberedKeys.{AreDistinct, Interns}
use Rattle.bisim_spec.specs.declared.sides.Side.{Side}
use Rattle.bisim_levels.specs.NeighbourSides.{is_neighbour}
use Rattle.bisim_spec.specs.NodeKeys.{IsKey}

-- the numbers that are seen are nodes with blocks, below a size
pub record AreReady (g : Graph) (block : List (Option ℕ)) (seen : ℕ → Bool) (size : ℕ) : Type 0 where
  -- each is a node
  pub node : (n : ℕ) → seen n ≡ true → IsSome (label_number g n)
  -- it has a block
  pub has_block : (n : ℕ) → seen n ≡ true → IsSome (at block n)
  -- it is below the size
  pub below : (n : ℕ) → seen n ≡ true → n < size

-- each node that is seen has the number of its key, keys are distinct, and each key is that of a node that is seen; K says
-- which keys a node has
pub record AreGrouped (K : ℕ → List ℕ → Type 0) (seen : ℕ → Bool) (keys : List (List ℕ)) (group : List ℕ) : Type 0 where
  -- no key stands twice
  pub distinct : AreDistinct keys
  -- the key with the number of a node that is seen is one that this node has
  pub each : (n : ℕ) → seen n ≡ true → (key : List ℕ) × (slice_get keys (slice_index group n) ≡ Some key) × K n key
  -- each key is one of some node that is seen
  pub inhabited : (k : ℕ) (key : List ℕ) → slice_get keys k ≡ Some key → (n : ℕ) × (seen n ≡ true) × K n key

-- the key of a node: its own block, and then the blocks of its neighbours on a side, rising, each once
abbrev pub NeighbourKey : Graph → Side → List (Option ℕ) → ℕ → List ℕ → Type 0
NeighbourKey g side block n key = IsKey (at block) block (is_neighbour side g) n key

-- the number is that of a key that passes, which is put behind the others where it was absent
abbrev pub InternsSome : (List ℕ → Type 0) → List (List ℕ) → List (List ℕ) → ℕ → Type 0
InternsSome K keys keys2 k = (key : List ℕ) × Interns keys keys2 key k × K key
