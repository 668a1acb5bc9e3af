-- Blocks that have keys, and nodes that are in the blocks of their keys.
use Rattle.std.specs.Prelude.{◌≡◌, ℕ, Bool, List, [], ◌∷◌, Option, Some, IsFalse, option_and_then, slice_get}
use Rattle.graph_spec.specs.Graphs.{Graph}
use Rattle.graph_spec.specs.Shapes.{Shape, IsNode, shape_of}
use Rattle.graph_spec.specs.Members.{at}
use Rattle.label_graph.specs.GraphViews.{label_number}
use Rattle.bisim_spec.specs.Partitions.{IsPartition}
use Rattle.bisim_spec.specs.declared.sides.Sides.{Sides}
use Rattle.bisim_spec.specs.SidedLevels.{affected}
use Rattle.one_spec.specs.BlockLabels.{BlocksHaveLabels}
use Rattle.one_spec.specs.EdgeCounts.{AreEdgeCounts}
use Rattle.bisim_levels.specs.SidedKeys.{IsSidedKey}

-- the node's block, if it has one, has the key that the node has over the partition one level below, by the sides
-- that count
pub record IsKeyed (sides : Sides) (s : Shape) (below block : List (Option ℕ)) (key : ℕ → Option (List ℕ)) (n : ℕ) : Type 0 where
  -- the block of the node has a key, and the node has this key over the level below
  pub keyed : (b : ℕ) → at block n ≡ Some b → (numbers : List ℕ) × (key b ≡ Some numbers) × IsSidedKey sides s below n numbers

-- no two blocks have one key
pub record AreDistinctKeys (key : ℕ → Option (List ℕ)) : Type 0 where
  -- blocks with the same key are the same
  pub apart : (a b : ℕ) (numbers : List ℕ) → key a ≡ Some numbers → key b ≡ Some numbers → a ≡ b

-- keys that blocks have stay theirs
pub record KeysStay (key key2 : ℕ → Option (List ℕ)) : Type 0 where
  -- a block that has a key keeps it
  pub kept : (b : ℕ) (numbers : List ℕ) → key b ≡ Some numbers → key2 b ≡ Some numbers

-- nodes of the graph after the change that aren't affected at the level have the blocks that they had
pub record SameFar (sides : Sides) (ends : ℕ → Bool) (s : Shape) (i : ℕ) (block block2 : List (Option ℕ)) : Type 0 where
  -- such a node has the block that it had
  pub same : (n : ℕ) → IsNode s n → IsFalse (affected sides s ends i n) → at block2 n ≡ at block n

-- the first number of a key: above the lowest level it is the block of the members one level below
abbrev pub first_number : Option (List ℕ) → Option ℕ
first_number key = option_and_then (λ numbers. slice_get numbers 0) key

-- the key of a block at the lowest level is its label
pub record AreLabelled (labels : List (Option ℕ)) (key : ℕ → Option (List ℕ)) : Type 0 where
  -- the key has the label as its only number
  pub is : (b l : ℕ) → at labels b ≡ Some l → key b ≡ Some (l ∷ [])

-- The level shows a partition of the nodes of the graph, in which blocks have the labels of their members, and supports
-- are the numbers of edges.
pub record IsLevelOf (g : Graph) (block labels : List (Option ℕ)) (support : ℕ → ℕ → ℕ) : Type 0 where
  -- exactly the nodes have a block
  pub partition : IsPartition (shape_of g) block
  -- each node has the label of its block
  pub block_labels : BlocksHaveLabels block (at labels) (label_number g)
  -- the support of a pair of blocks is the number of edges from the one to the other
  pub supports : AreEdgeCounts g block support

-- a block has the label of the block one level below with which its key begins
pub record LabelsGoUp (below_labels labels : List (Option ℕ)) (key : ℕ → Option (List ℕ)) : Type 0 where
  -- the block with which the key of b begins has the label that b has
  pub is : (b number : ℕ) → first_number (key b) ≡ Some number → (l : ℕ) × (at below_labels number ≡ Some l) × (at labels b ≡ Some l)
