-- Nodes that are placed in the blocks of their keys at one level of a draft.
use Rattle.std.specs.Prelude.{◌≡◌, ◌+◌, ◌<◌, ℕ, List, Option, Some, IsTrue, IsFalse, length}
use Rattle.graph_spec.specs.Graphs.{Graph}
use Rattle.graph_spec.specs.Shapes.{shape_of}
use Rattle.graph_spec.specs.Members.{at, has}
use Rattle.bisim_spec.specs.declared.sides.Sides.{Sides}
use Rattle.one_spec.specs.EdgeCounts.{AreEdgeCounts}
use Rattle.quotient_draft.specs.Drafts.{PutsNode}
use Rattle.keyed_quotient.specs.KeyedQuotients.{KeyedQuotient}
use Rattle.keyed_quotient.specs.Changes.{KeyedChanges}
use Rattle.ak_family.specs.LevelDrafts.{blocks_shown, labels_shown, support_shown, key_shown, AreOver, AreSameBut}
use Rattle.level_spec.specs.Keyed.{IsKeyed, KeysStay, IsLevelOf, LabelsGoUp}

-- blocks stay blocks, and keep their labels
pub record LabelsKept (labels labels2 : List (Option ℕ)) : Type 0 where
  -- a block that has a label keeps it
  pub kept : (b l : ℕ) → at labels b ≡ Some l → at labels2 b ≡ Some l

-- Level i and the one above it show the graph, and the keys of the upper one begin as they must.
pub record AreTwoLevels (g : Graph) (f : List KeyedQuotient) (d : List KeyedChanges) (i : ℕ) : Type 0 where
  -- the draft is over the family
  pub over : AreOver f d
  -- there is a level above i
  pub within : i + 1 < length f
  -- level i shows a partition of the graph, with labels and supports
  pub lower : IsLevelOf g (blocks_shown f d i) (labels_shown f d i) (support_shown f d i)
  -- so does the one above
  pub upper : IsLevelOf g (blocks_shown f d (i + 1)) (labels_shown f d (i + 1)) (support_shown f d (i + 1))
  -- a block there has the label of the block of level i with which its key begins
  pub up : LabelsGoUp (labels_shown f d i) (labels_shown f d (i + 1)) (key_shown f d (i + 1))

-- the node is in block b of level i now, and nothing else has changed but supports
pub record HasMoved (g : Graph) (f : List KeyedQuotient) (d d2 : List KeyedChanges) (i n b : ℕ) : Type 0 where
  -- the draft is still over the family
  pub over : AreOver f d2
  -- no other level has changed
  pub others : AreSameBut i d d2
  -- the node is in block b, and each other node of the level is where it was
  pub blocks : PutsNode n (Some b) (blocks_shown f d i) (blocks_shown f d2 i)
  -- labels and keys are as before
  pub labels : labels_shown f d2 i ≡ labels_shown f d i
  pub keys : (c : ℕ) → key_shown f d2 i c ≡ key_shown f d i c
  -- the support of a pair of blocks is the number of edges from the one to the other
  pub supports : AreEdgeCounts g (blocks_shown f d2 i) (support_shown f d2 i)

-- At the level above i these nodes are in the blocks of their keys now, and the others stayed. Blocks kept their labels
-- and keys.
pub record ArePlaced (sides : Sides) (g : Graph) (f : List KeyedQuotient) (d d2 : List KeyedChanges) (i : ℕ) (nodes : List ℕ) : Type 0 where
  -- both levels still show the graph
  pub levels : AreTwoLevels g f d2 i
  -- no level but the one above i has changed
  pub others : AreSameBut (i + 1) d d2
  -- blocks there have kept their labels
  pub labels : LabelsKept (labels_shown f d (i + 1)) (labels_shown f d2 (i + 1))
  -- and their keys
  pub keys : KeysStay (key_shown f d (i + 1)) (key_shown f d2 (i + 1))
  -- nodes other than these are where they were
  pub blocks : (n : ℕ) → IsFalse (has nodes n) → at (blocks_shown f d2 (i + 1)) n ≡ at (blocks_shown f d (i + 1)) n
  -- the block of each of these has the key that the node has over level i
  pub keyed : (n : ℕ) → IsTrue (has nodes n) → IsKeyed sides (shape_of g) (blocks_shown f d2 i) (blocks_shown f d2 (i + 1)) (key_shown f d2 (i + 1)) n
