-- Blocks that are split by a set of nodes, the splitter (R. Paige and R. E. Tarjan, SIAM Journal on Computing 16, 1987).
use Rattle.std.specs.Prelude.{ℕ, ◌≡◌, [], ◌∷◌, ◌||◌, Bool, true, false, List, Option, Some}
use Rattle.std.specs.List.{list_any}
use Rattle.graph_spec.specs.Graphs.{Graph}
use Rattle.graph_spec.specs.Members.{has, at}
use Rattle.bisim_spec.specs.Partitions.{Together}
use Rattle.bisim_spec.specs.declared.sides.Side.{Side}
use Rattle.bisim_spec.specs.declared.sides.Side.TheVariants.{Parents, Children}
use Rattle.bisim_levels.specs.NeighbourSides.{is_neighbour}
use Rattle.block_partition.specs.LabelledPartitions.{Partition}
use Rattle.block_splitting.specs.Splits.{IsNeighbour}
use Rattle.block_splitting.specs.Nodes.{NodeList}
use Rattle.block_splitting.specs.Groups.{AreGrouped}

-- both nodes have a neighbour in the splitter on the side, or neither has one
pub record BothOrNeither (t : Side) (g : Graph) (splitter : ℕ → Bool) (u v : ℕ) : Type 0 where
  -- if u has a neighbour in the splitter, v has one
  pub there : (p : ℕ) → IsNeighbour t g p u → splitter p ≡ true → (q : ℕ) × IsNeighbour t g q v × (splitter q ≡ true)
  -- if v has one, u has one
  pub back : (p : ℕ) → IsNeighbour t g p v → splitter p ≡ true → (q : ℕ) × IsNeighbour t g q u × (splitter q ≡ true)

-- two nodes are together exactly where they were, and both or neither have a parent in the splitter, and a child
pub record IsSplitBy (g : Graph) (old new : List (Option ℕ)) (splitter : ℕ → Bool) : Type 0 where
  -- nodes that are together were so before
  pub finer : (u v : ℕ) → Together new u v → Together old u v
  -- on each side both or neither of two nodes that are together have a neighbour in the splitter
  pub parted : (t : Side) (u v : ℕ) → Together new u v → BothOrNeither t g splitter u v
  -- nodes stay together if that holds on both sides
  pub grouped : (u v : ℕ) → Together old u v → BothOrNeither Parents g splitter u v → BothOrNeither Children g splitter u v → Together new u v

-- each node's block has the label that its block had before
pub record KeepLabels (old new : Partition) : Type 0 where
  -- the node's new block has the label of its old one
  pub each : (n a b : ℕ) → at old.block_of n ≡ Some a → at new.block_of n ≡ Some b → at new.labels b ≡ at old.labels a

-- the nodes that have a parent in the splitter, those that have a child there, and both together
pub record AreTouched (g : Graph) (splitter parents children touched : List ℕ) : Type 0 where
  -- those with a parent in the splitter
  pub by_parents : (n : ℕ) → has parents n ≡ list_any (λ q. is_neighbour Parents g q n) splitter
  -- those with a child in it
  pub by_children : (n : ℕ) → has children n ≡ list_any (λ q. is_neighbour Children g q n) splitter
  -- those with one or the other
  pub all : (n : ℕ) → has touched n ≡ (has parents n || has children n)

-- how a key says yes or no: 1 or 0
abbrev pub bit_of : Bool → ℕ
bit_of true = 1
bit_of false = 0

-- the key of a node: its own block, whether it is of the one set, and whether of the other
pub record FlagKey (parents children : ℕ → Bool) (block : List (Option ℕ)) (n : ℕ) (key : List ℕ) : Type 0 where
  -- the block of the node
  pub own : ℕ
  -- it is in that block
  pub own_is : at block n ≡ Some own
  -- the key is the block and then the two bits
  pub is : key ≡ own ∷ bit_of (parents n) ∷ bit_of (children n) ∷ []

-- the key of a node: its own block, and whether it is of the one list of touched nodes, and of the other
abbrev pub TouchedKey : NodeList → NodeList → List (Option ℕ) → ℕ → List ℕ → Type 0
TouchedKey parents children block n key = FlagKey (has parents.nodes) (has children.nodes) block n key

-- each touched node has the number of its key
abbrev pub AreTouchGroups : NodeList → NodeList → List (Option ℕ) → (ℕ → Bool) → List (List ℕ) → List ℕ → Type 0
AreTouchGroups parents children block touched keys group = AreGrouped (TouchedKey parents children block) touched keys group
