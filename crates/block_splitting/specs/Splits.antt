-- Blocks that are split by the blocks of their members' neighbours (the refinement step of R. Paige and R. E. Tarjan, "Three
-- Partition Refinement Algorithms", SIAM Journal on Computing 16, 1987, done for all active members at once).
use Rattle.std.specs.Prelude.{ℕ, ◌≡◌, ◌<◌, ◌≤◌, ◌⊎◌, [], Bool, true, false, List, Option, Some, IsTrue}
use Rattle.graph_spec.specs.Graphs.{Graph}
use Rattle.graph_spec.specs.Members.{at}
use Rattle.label_graph.specs.GraphViews.{label_number}
use Rattle.bisim_spec.specs.Bisimilarity.{Matched}
use Rattle.bisim_spec.specs.Partitions.{Together}
use Rattle.bisim_spec.specs.declared.sides.Side.{Side}
use Rattle.bisim_levels.specs.NeighbourSides.{is_neighbour}
use Rattle.block_partition.specs.LabelledPartitions.{Partition, IsBlock, block_count}

-- p is a neighbour of n on this side
abbrev pub IsNeighbour : Side → Graph → ℕ → ℕ → Type 0
IsNeighbour t g p n = IsTrue (is_neighbour t g p n)

-- Those that were active are parted by the blocks of their neighbours on the side, and from the others; and which nodes moved.
pub record IsSplit (g : Graph) (side : Side) (active : ℕ → Bool) (old new : List (Option ℕ)) (moved : ℕ → Bool) : Type 0 where
  -- nodes that are together were so before
  pub finer : (u v : ℕ) → Together new u v → Together old u v
  -- active nodes are together only if their neighbours' blocks were the same
  pub parted : (u v : ℕ) → Together new u v → ((active u ≡ false) × (active v ≡ false)) ⊎ Matched (IsNeighbour side g) (Together old) u v
  -- nodes stay together if both or neither are active and their neighbours' blocks were the same
  pub grouped : (u v : ℕ) → Together old u v → Matched (IsNeighbour side g) (Together old) u v → (active u ≡ true → active v ≡ true)
      → (active v ≡ true → active u ≡ true) → Together new u v
  -- a node that isn't among the moved ones keeps its block
  pub still : (n : ℕ) → moved n ≡ false → at new n ≡ at old n
  -- each of the moved ones has another block
  pub went : (n : ℕ) → moved n ≡ true → at new n ≡ at old n → ⊥
  -- only active nodes move
  pub was_active : (n : ℕ) → moved n ≡ true → active n ≡ true

-- there are more blocks than before, or nothing moved
abbrev pub HasMore : Partition → Partition → List ℕ → Type 0
HasMore old new moved = ((moved ≡ []) × (block_count old ≤ block_count new)) ⊎ (block_count old < block_count new)

-- each block has the label of its members
pub record AreLabelled (g : Graph) (p : Partition) : Type 0 where
  -- a member's label is that of its block
  pub each : (n b : ℕ) → at p.block_of n ≡ Some b → at p.labels b ≡ label_number g n

-- each block has a member
pub record AreInhabited (p : Partition) : Type 0 where
  -- some node is in the block
  pub each : (b : ℕ) → IsBlock p b → (n : ℕ) × (at p.block_of n ≡ Some b)
