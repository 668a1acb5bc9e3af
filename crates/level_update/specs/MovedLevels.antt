-- What holds of the levels of a draft while the affected nodes move between blocks.
use Rattle.std.specs.Prelude.{◌≡◌, ◌+◌, ◌<◌, ℕ, Bool, List, IsTrue, length}
use Rattle.graph_spec.specs.Graphs.{Graph}
use Rattle.graph_spec.specs.Shapes.{IsNode, shape_of}
use Rattle.graph_spec.specs.Members.{at}
use Rattle.bisim_spec.specs.declared.sides.Sides.{Sides}
use Rattle.bisim_spec.specs.SidedLevels.{affected}
use Rattle.keyed_quotient.specs.KeyedQuotients.{KeyedQuotient, key_at}
use Rattle.keyed_quotient.specs.Changes.{KeyedChanges}
use Rattle.ak_family.specs.Families.{level_at, blocks_at}
use Rattle.ak_family.specs.LevelDrafts.{blocks_shown, labels_shown, support_shown, key_shown, AreOver}
use Rattle.level_spec.specs.Keyed.{IsKeyed, KeysStay, SameFar, AreLabelled, IsLevelOf, LabelsGoUp}

-- The draft shows the graph after the change at each level: a partition with the labels of members and the numbers of
-- edges. The keys of blocks begin as they must, blocks of the base keep theirs, and at level i only nodes within i
-- edges of the ends have moved.
pub record HasMovedAffected (sides : Sides) (ends : ℕ → Bool) (g : Graph) (f : List KeyedQuotient) (d : List KeyedChanges) : Type 0 where
  -- the draft is over the family
  pub over : AreOver f d
  -- each level shows a partition of the graph, with the labels of members and the numbers of edges
  pub levels : (i : ℕ) → i < length f → IsLevelOf g (blocks_shown f d i) (labels_shown f d i) (support_shown f d i)
  -- at the lowest level a key is the label of its block
  pub lowest : AreLabelled (labels_shown f d 0) (key_shown f d 0)
  -- above it a block has the label of the block one level below with which its key begins
  pub up : (i : ℕ) → i + 1 < length f → LabelsGoUp (labels_shown f d i) (labels_shown f d (i + 1)) (key_shown f d (i + 1))
  -- blocks of the base keep their keys
  pub stay : (i : ℕ) → i < length f → KeysStay (key_at (level_at f i).keys) (key_shown f d i)
  -- at each level the nodes that aren't affected there are where they were
  pub far : (i : ℕ) → i < length f → SameFar sides ends (shape_of g) i (blocks_at f i) (blocks_shown f d i)

-- At the lowest level the nodes of both graphs have the blocks that they had. One level above level i only nodes within i edges
-- of the ends have moved. So it is where no node gets another label.
pub record HasMovedNear (sides : Sides) (ends : ℕ → Bool) (g g2 : Graph) (f : List KeyedQuotient) (d : List KeyedChanges) : Type 0 where
  -- at the lowest level the nodes of both graphs are where they were
  pub lowest : (n : ℕ) → IsNode (shape_of g) n → IsNode (shape_of g2) n → at (blocks_shown f d 0) n ≡ at (blocks_at f 0) n
  -- one level above i the nodes that aren't affected at level i are where they were
  pub far : (i : ℕ) → i + 1 < length f → SameFar sides ends (shape_of g2) i (blocks_at f (i + 1)) (blocks_shown f d (i + 1))

-- above the lowest level each affected node is in the block of its key
pub record AreKeyedAffected (sides : Sides) (ends : ℕ → Bool) (g : Graph) (f : List KeyedQuotient) (d : List KeyedChanges) : Type 0 where
  -- the block of such a node has the key that the node has over the level below
  pub each : (i n : ℕ) → i + 1 < length f → IsTrue (affected sides (shape_of g) ends (i + 1) n)
      → IsKeyed sides (shape_of g) (blocks_shown f d i) (blocks_shown f d (i + 1)) (key_shown f d (i + 1)) n

-- each level shows the graph, and the affected nodes are in the blocks of their keys
pub record AreMoved (sides : Sides) (ends : ℕ → Bool) (g : Graph) (f : List KeyedQuotient) (d : List KeyedChanges) : Type 0 where
  -- each level shows the graph, and only affected nodes have moved
  pub moving : HasMovedAffected sides ends g f d
  -- these are in the blocks of their keys
  pub keyed : AreKeyedAffected sides ends g f d
