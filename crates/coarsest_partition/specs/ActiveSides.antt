-- What is active on each side.
use Rattle.std.specs.Prelude.{ℕ, ◌≡◌, Bool, true, List, Option, IsSome, length, ◌<◌, ◌≤◌, ◌⊎◌, []}
use Rattle.graph_spec.specs.Graphs.{Graph, IsGraph}
use Rattle.graph_spec.specs.Members.{at, has}
use Rattle.graph_spec.specs.Shapes.{shape_of}
use Rattle.bisim_spec.specs.Bisimilarity.{SameLabel}
use Rattle.bisim_spec.specs.Partitions.{Agrees, IsPartition}
use Rattle.block_splitting.specs.Nodes.{NodeList, AreNodes}
use Rattle.bisim_spec.specs.declared.sides.Side.{Side}
use Rattle.bisim_spec.specs.declared.sides.Side.TheVariants.{Parents, Children}
use Rattle.block_partition.specs.LabelledPartitions.{Partition, block_count}
use Rattle.coarsest_partition.specs.Refined.{both_sides, IsStep}

-- what is active by parents, and what by children
abbrev pub two : (ℕ → Bool) → (ℕ → Bool) → Side → ℕ → Bool
two parents children Parents = parents
two parents children Children = children

-- what is active on this side, and what on the other
abbrev pub by_side : Side → (ℕ → Bool) → (ℕ → Bool) → Side → ℕ → Bool
by_side Parents own other = two own other
by_side Children own other = two other own

-- the other side
abbrev pub other_of : Side → Side
other_of Parents = Children
other_of Children = Parents

-- The blocks of a graph are by labels, and each node of a block is active on both sides.
pub record AreBothSidesActive (g : Graph) (block : List (Option ℕ)) (parents children : NodeList) : Type 0 where
  -- the graph is one
  pub graph : IsGraph g
  -- two nodes share a block exactly where they have one label
  pub labels : Agrees (shape_of g) block (SameLabel (shape_of g))
  -- both lists have nodes of the graph
  pub parents_are : AreNodes g parents.nodes
  pub children_are : AreNodes g children.nodes
  -- their sizes are that of the graph
  pub parents_size : parents.size ≡ length g.allocated
  pub children_size : children.size ≡ length g.allocated
  -- each node with a block is on both
  pub by_parents : (n : ℕ) → IsSome (at block n) → has parents.nodes n ≡ true
  pub by_children : (n : ℕ) → IsSome (at block n) → has children.nodes n ≡ true

-- nodes of the graph, in a set for all its numbers
pub record AreActive (g : Graph) (active_nodes : NodeList) : Type 0 where
  -- those that are active are nodes
  pub nodes : AreNodes g active_nodes.nodes
  -- the set has a place for each number of the graph
  pub size : active_nodes.size ≡ length g.allocated

-- a step both ways: what was active on this side and on the other, and what is next
abbrev pub IsStepOn : Graph → Side → List (Option ℕ) → List (Option ℕ) → NodeList → NodeList → NodeList → NodeList → Type 0
IsStepOn g side old new own other own2 other2 =
    IsStep g both_sides old new (by_side side (has own.nodes) (has other.nodes)) (by_side side (has own2.nodes) (has other2.nodes))

-- there are more blocks than before; or there are no fewer, no node is active on this side, and on the other the same are
abbrev pub HasMoreOrSettles : Partition → Partition → NodeList → NodeList → NodeList → Type 0
HasMoreOrSettles old new own2 other other2 =
    ((own2.nodes ≡ []) × ((m : ℕ) → has other2.nodes m ≡ has other.nodes m) × (block_count old ≤ block_count new)) ⊎ (block_count old < block_count new)

-- a partition of the graph, and a table with a group for each of its numbers
pub record CanRefine (g : Graph) (block : List (Option ℕ)) (groups : ℕ) : Type 0 where
  -- what is seen is a graph
  pub graph : IsGraph g
  -- exactly its nodes have a block
  pub partition : IsPartition (shape_of g) block
  -- there is a group for each of its numbers
  pub reserved : length g.allocated ≤ groups
