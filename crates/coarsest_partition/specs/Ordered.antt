-- Nodes that are numbered by their keys after all their parents.
use Rattle.std.specs.Prelude.{ℕ, ◌≡◌, ◌<◌, List, Option, Some, None, true, IsSome, is_some, length, slice_get}
use Rattle.std.specs.List.{list_all}
use Rattle.graph_spec.specs.Graphs.{Graph}
use Rattle.graph_spec.specs.Members.{at}
use Rattle.graph_spec.specs.Shapes.{shape_of}
use Rattle.label_graph.specs.GraphViews.{label_number}
use Rattle.key_table.specs.NumberedKeys.{AreDistinct}
use Rattle.bisim_spec.specs.Bisimilarity.{Bisim}
use Rattle.bisim_spec.specs.Partitions.{Together}
use Rattle.bisim_spec.specs.declared.sides.Side.TheVariants.{Parents}
use Rattle.bisim_levels.specs.NeighbourSides.{is_neighbour}
use Rattle.bisim_spec.specs.NodeKeys.{IsKey}
use Rattle.block_splitting.specs.Splits.{IsNeighbour}

-- The nodes that have a number: with a node its parents have one; the number is that of the node's key, its label and
-- the numbers of its parents, and each key is that of a node; and bisimilar nodes that have one have the same.
pub record IsOrdered (g : Graph) (keys : List (List ℕ)) (block : List (Option ℕ)) : Type 0 where
  -- no key stands twice
  pub distinct : AreDistinct keys
  -- only nodes have numbers
  pub node : (n : ℕ) → IsSome (at block n) → IsSome (label_number g n)
  -- if a node has a number, so have its parents
  pub closed : (p n : ℕ) → IsSome (at block n) → IsNeighbour Parents g p n → IsSome (at block p)
  -- the number of a node is that of its key: its label, and the numbers of its parents
  pub keyed : (n b : ℕ) → at block n ≡ Some b → (key : List ℕ) × (slice_get keys b ≡ Some key) × IsKey (label_number g) block (is_neighbour Parents g) n key
  -- each key is that of some node
  pub inhabited : (b : ℕ) → b < length keys → (n : ℕ) × (at block n ≡ Some b)
  -- of bisimilar nodes those that have numbers have the same
  pub coarse : (u v : ℕ) → IsSome (at block u) → IsSome (at block v) → Bisim (shape_of g) u v → Together block u v

-- the node has no number, and all these have
pub record IsReadyForRounds (block : List (Option ℕ)) (n : ℕ) (parents : List ℕ) : Type 0 where
  -- the node has no number
  pub none : at block n ≡ None
  -- all these have one
  pub numbered : list_all (λ p. is_some (at block p)) parents ≡ true

-- if it is a node, it has a number
abbrev pub IsNumbered : Graph → List (Option ℕ) → ℕ → Type 0
IsNumbered g block n = IsSome (label_number g n) → IsSome (at block n)

-- each node has a number
pub record AreAllNumbered (g : Graph) (block : List (Option ℕ)) : Type 0 where
  -- each node has a number
  pub each : (n : ℕ) → IsNumbered g block n
