-- What a round over some nodes asks, and what it leaves.
use Rattle.std.specs.Prelude.{◌⊎◌, ◌≡◌, ◌≤◌, ◌<◌, ℕ, Bool, List, [], Option, IsTrue, length, nat_eq}
use Rattle.std.specs.List.{IsDistinct}
use Rattle.graph_spec.specs.Graphs.{Graph, is_live}
use Rattle.graph_spec.specs.Members.{at, has}
use Rattle.graph_spec.specs.Shapes.{shape_of, IsShape}
use Rattle.label_graph.specs.GraphViews.{label_number}
use Rattle.bisim_spec.specs.Partitions.{IsPartition}
use Rattle.one_spec.specs.BlockLabels.{BlocksHaveLabels}
use Rattle.one_spec.specs.Splits.{IsClosed, IsSplitInside}
use Rattle.one_spec.specs.EdgeCounts.{AreEdgeCounts}
use Rattle.graph_update.specs.PendingChanges.{Pending, graph_after}
use Rattle.quotient.specs.Quotients.{Quotient}
use Rattle.quotient_draft.specs.Basis.{IsOver}
use Rattle.quotient_draft.specs.Drafts.{Drafted, shown_blocks, shown_labels, shown_support}
use Rattle.one_split.specs.NodeTargetBlocks.{AreBlocks, MembersHaveLabels, GoesIf, TargetBlocksHaveLabels, HaveGone, ListsChildrenOf, LabelsStay}

-- The draft shows a partition of the graph after the change, with labels and the numbers of edges; the nodes are there,
-- each once; and what was made are blocks.
pub record CanRound (a : Pending) (base : Quotient) (d : Drafted) (nodes new_blocks : List ℕ) : Type 0 where
  -- the draft is over this base
  pub over : IsOver base.blocks.block_of base.blocks.labels d
  -- the block of each node has a label
  pub live : MembersHaveLabels (shown_blocks base d) (at (shown_labels base d))
  -- these are nodes of the graph after the change
  pub there : (n : ℕ) → IsTrue (has nodes n) → IsTrue (is_live (graph_after a) n)
  -- that graph is a shape
  pub shape : IsShape (shape_of (graph_after a))
  -- exactly its nodes have a block
  pub partition : IsPartition (shape_of (graph_after a)) (shown_blocks base d)
  -- no node is listed twice
  pub once : IsDistinct nat_eq nodes
  -- what was made are blocks, none of them listed twice
  pub blocks : AreBlocks (at (shown_labels base d)) new_blocks
  -- the support of a pair of blocks is the number of edges from the one to the other
  pub supports : AreEdgeCounts (graph_after a) (shown_blocks base d) (shown_support base d)

-- The nodes are parted, and by that the next nodes may have come apart from others: what held of the nodes and of the
-- blocks made before holds of the next nodes and of the blocks made by then. Where no block was made, no node is next.
pub record IsRound (a : Pending) (base : Quotient) (d d2 : Drafted) (nodes new_blocks new_blocks2 next : List ℕ) : Type 0 where
  -- the draft is over this base
  pub over : IsOver base.blocks.block_of base.blocks.labels d2
  -- what held after the rounds before (`IsSplitInside`) holds after this one, of the next nodes and of all blocks made
  pub split : (inside : ℕ → Bool) (first : List (Option ℕ)) → IsClosed (shape_of (graph_after a)) inside
      → IsSplitInside (shape_of (graph_after a)) inside first (shown_blocks base d) nodes new_blocks
      → IsSplitInside (shape_of (graph_after a)) inside first (shown_blocks base d2) next new_blocks2
  -- no next node is listed twice
  pub once : IsDistinct nat_eq next
  -- where nodes had the labels of their blocks, they have them still
  pub block_labels : (node_labels : ℕ → Option ℕ) → BlocksHaveLabels (shown_blocks base d) (at (shown_labels base d)) node_labels
      → BlocksHaveLabels (shown_blocks base d2) (at (shown_labels base d2)) node_labels
  -- what was made are blocks, none of them listed twice
  pub blocks : AreBlocks (at (shown_labels base d2)) new_blocks2
  -- the support of a pair of blocks is the number of edges from the one to the other
  pub supports : AreEdgeCounts (graph_after a) (shown_blocks base d2) (shown_support base d2)
  -- no fewer blocks are listed than before
  pub least : length new_blocks ≤ length new_blocks2
  -- a block was made, or no node is next
  pub more : (length new_blocks < length new_blocks2) ⊎ (next ≡ [])

-- the draft has further blocks, and all else is as it was
pub record ExtendsDraft (base : Quotient) (d d2 : Drafted) : Type 0 where
  -- the draft fits the base
  pub over : IsOver base.blocks.block_of base.blocks.labels d2
  -- nodes are in the blocks in which they were
  pub stay : shown_blocks base d2 ≡ shown_blocks base d
  -- each pair has its support
  pub supports : (x y : ℕ) → shown_support base d2 x y ≡ shown_support base d x y
  -- each block has its label
  pub kept : LabelsStay (at (shown_labels base d)) (at (shown_labels base d2))

-- nodes of the graph, each once
pub record AreLiveNodes (g : Graph) (nodes : List ℕ) : Type 0 where
  -- each is a node
  pub there : (n : ℕ) → IsTrue (has nodes n) → IsTrue (is_live g n)
  -- none is listed twice
  pub once : IsDistinct nat_eq nodes

-- The draft shows a partition of the graph after the change, with the numbers of edges.
pub record ShowsPartition (a : Pending) (base : Quotient) (d : Drafted) : Type 0 where
  -- the draft fits the base
  pub over : IsOver base.blocks.block_of base.blocks.labels d
  -- edges lead from nodes to nodes
  pub shape : IsShape (shape_of (graph_after a))
  -- exactly the nodes have a block
  pub partition : IsPartition (shape_of (graph_after a)) (shown_blocks base d)
  -- supports are numbers of edges
  pub supports : AreEdgeCounts (graph_after a) (shown_blocks base d) (shown_support base d)

-- each node's block has the label that the node has after the change
abbrev pub ShowsRightLabels : Pending → Quotient → Drafted → Type 0
ShowsRightLabels a base d = BlocksHaveLabels (shown_blocks base d) (at (shown_labels base d)) (label_number (graph_after a))

-- where a group goes, it goes to a block that was none before it was drafted, as `GoesIf` says
abbrev pub GoesAsDrafted : Quotient → Drafted → Drafted → List (ℕ × ℕ) → ℕ → List ℕ → List ℕ → Option ℕ → Type 0
GoesAsDrafted base d d2 counts own stays stays2 target_block =
    GoesIf (shown_blocks base d) (at (shown_labels base d)) (at (shown_labels base d2)) counts own stays stays2 target_block

-- a block to which a group goes has, as drafted, the label of the block from which it comes
abbrev pub TargetBlocksTakeLabels : Quotient → Drafted → Drafted → List (List ℕ) → List (Option ℕ) → Type 0
TargetBlocksTakeLabels base d d2 keys target_blocks = TargetBlocksHaveLabels keys target_blocks (at (shown_labels base d)) (at (shown_labels base d2))

-- all nodes have gone where their groups go, and the others have stayed
abbrev pub HaveAllGone : Quotient → Drafted → Drafted → List ℕ → List ℕ → List (Option ℕ) → Type 0
HaveAllGone base d d2 nodes numbers target_blocks = HaveGone (shown_blocks base d) (shown_blocks base d2) nodes numbers target_blocks (length nodes)

-- the list has the children, after the change, of the nodes that have gone
abbrev pub ListsAllChildren : Pending → List ℕ → List ℕ → List (Option ℕ) → List ℕ → Type 0
ListsAllChildren a nodes numbers target_blocks next = ListsChildrenOf (shape_of (graph_after a)) nodes numbers target_blocks (length nodes) next
