-- What is drafted for a change of the graph of a 1-index (K. Yi, H. He, I. Stanoi and J. Yang, "Incremental Maintenance
-- of XML Structural Indexes", SIGMOD 2004).
use Rattle.std.specs.Prelude.{◌≡◌, ◌<◌, ◌≤◌, ◌^◌, ◌↔◌, ℕ, ◌+◌, ◌*◌, Bool, List, length, Option, [], Some, IsFalse, IsTrue, nat_eq}
use Rattle.std.specs.List.{IsDistinct}
use Rattle.std.specs.FinSet as set
use Rattle.graph_spec.specs.Graphs.{Graph, IsGraph}
use Rattle.change_spec.specs.Steps.{Step, after}
use Rattle.graph_spec.specs.Shapes.{IsNode, shape_of}
use Rattle.graph_spec.specs.Members.{at, has, Lists}
use Rattle.label_graph.specs.GraphViews.{label_number}
use Rattle.bisim_spec.specs.Partitions.{IsPartition, Together}
use Rattle.bisim_spec.specs.Stability.{Stable, StableBut, Minimal}
use Rattle.bisim_spec.specs.Reach.{reach}
use Rattle.bisim_spec.specs.Weights.{size_of}
use Rattle.bisim_spec.specs.KeptBlocks.{KeepsBlocks}
use Rattle.bisim_spec.proofs.Outside.{DiffersAt}
use Rattle.change_spec.specs.Altered.{targets}
use Rattle.change_spec.specs.Costs.{cost}
use Rattle.change_spec.specs.NextOne.{OneStep}
use Rattle.bisim_spec.specs.IndexGraphs.{View, support_at}
use Rattle.bisim_spec.specs.Fits.{FitsOne}
use Rattle.graph_steps.specs.NewChanges.{IsNew}
use Rattle.graph_update.specs.PendingChanges.{Pending, graph_after}
use Rattle.graph_effects.specs.Effects.{is_relabelled}
use Rattle.quotient.specs.Quotients.{Quotient, view_of}
use Rattle.quotient_draft.specs.Drafts.{Drafted, shown_blocks, shown_labels, shown_support}
use Rattle.quotient_draft.specs.Basis.{IsOver}
use Rattle.one_spec.specs.BlockLabels.{BlocksHaveLabels, BlocksHaveLabelsBut}
use Rattle.one_spec.specs.EdgeCounts.{AreEdgeCounts}

-- The draft shows the graph after the change, with nodes in the blocks in which they were: a new node has some block.
-- The partition may be unstable at the targets, and a node that gets another label may be in a block that has its old
-- one.
pub record ShowsChange (g : Graph) (c : List Step) (q : Quotient) (d : Drafted) : Type 0 where
  -- the draft is over this base
  pub over : IsOver q.blocks.block_of q.blocks.labels d
  -- exactly the nodes of the graph after the change have a block
  pub partition : IsPartition (shape_of (after c g)) (shown_blocks q d)
  -- a node of both graphs has the block that it had
  pub keeps : KeepsBlocks (shape_of g) (shape_of (after c g)) q.blocks.block_of (shown_blocks q d)
  -- each node that doesn't get another label has the label of its block
  pub block_labels : BlocksHaveLabelsBut (is_relabelled g (after c g)) (shown_blocks q d) (at (shown_labels q d)) (label_number (after c g))
  -- the support of a pair of blocks is the number of edges from the one to the other
  pub supports : AreEdgeCounts (after c g) (shown_blocks q d) (shown_support q d)

-- the draft shows the next partition, with the labels of members and the numbers of edges
pub record IsDrafted (g : Graph) (c : List Step) (q : Quotient) (d : Drafted) : Type 0 where
  -- the draft is over the base
  pub over : IsOver q.blocks.block_of q.blocks.labels d
  -- the partition as shown is the next one of the 1-index
  pub step : OneStep g q.blocks.block_of c (after c g) (shown_blocks q d)
  -- as shown blocks have their members' labels
  pub block_labels : BlocksHaveLabels (shown_blocks q d) (at (shown_labels q d)) (label_number (after c g))
  -- as shown supports are numbers of edges in the graph after
  pub supports : AreEdgeCounts (after c g) (shown_blocks q d) (shown_support q d)

-- targets of the change, each once, and all nodes at which the two graphs differ in the end
pub record AreFoundTargets (g : Graph) (c : List Step) (found : List ℕ) : Type 0 where
  -- no node stands twice
  pub once : IsDistinct nat_eq found
  -- each is a target of the change
  pub among : (n : ℕ) → IsTrue (has found n) → IsTrue (targets c g n)
  -- the two graphs differ at these alone
  pub differs : DiffersAt (has found) (shape_of g) (shape_of (after c g))

-- the list has just the targets of the change, each once
abbrev pub AreTargets : Graph → List Step → List ℕ → Type 0
AreTargets g c list = Lists (targets c g) list

-- the nodes that the change reaches, in the graph that it leaves
abbrev pub reached : Graph → List Step → ℕ → Bool
reached g c = reach (shape_of (after c g)) (targets c g)

-- how many nodes the change reaches and one more, times what it costs there
abbrev pub rounds_cost : Graph → List Step → ℕ
rounds_cost g c = (size_of (shape_of (after c g)) (reached g c) + 1) * cost c g (reached g c)

-- how many steps a change may take
abbrev pub most_steps : Graph → List Step → ℕ
most_steps g c = 8 * rounds_cost g c

-- the block of u has support to that of v
pub record IsSupported (v : View) (from onto : ℕ) : Type 0 where
  -- the blocks of the two nodes
  pub first : ℕ
  pub second : ℕ
  -- `from` is in the first, `onto` in the second
  pub from_at : at v.block_of from ≡ Some first
  pub onto_at : at v.block_of onto ≡ Some second
  -- the first has support to the second
  pub some : 0 < support_at v.supports first second

-- the quotient is a 1-index of the graph before the change, and the change is new
pub record IsBefore (a : Pending) (q : Quotient) : Type 0 where
  -- the quotient is a 1-index of the graph
  pub fits : FitsOne a.before (view_of q)
  -- no step does what is done already
  pub new : IsNew a.change a.before
  -- the graph is one, before the change and after it
  pub graph : IsGraph a.before
  pub graph_after : IsGraph (after a.change a.before)
  -- edges and nodes are within what their counts can hold
  pub few : set.len a.before.edges ≤ 2 ^ 30
  pub small : length a.before.allocated ≤ 2 ^ 30

-- The base was stable, and no two of its blocks could be merged; nodes of both graphs that the change doesn't reach are
-- shown together exactly as in it. Nothing is said of the nodes that it reaches.
pub record KeepsUnreached (g : Graph) (c : List Step) (block shown : List (Option ℕ)) : Type 0 where
  -- the base is stable
  pub stable : Stable (shape_of g) block
  -- no two blocks of the base can be merged
  pub minimal : Minimal (shape_of g) block
  -- two nodes of both graphs that the change doesn't reach are shown together exactly where they are in the base
  pub outside : (u v : ℕ) → IsNode (shape_of g) u → IsNode (shape_of g) v → IsNode (shape_of (after c g)) u → IsNode (shape_of (after c g)) v
      → IsFalse (reached g c u) → IsFalse (reached g c v) → Together shown u v ↔ Together block u v

-- supports alone are drafted
pub record AreSupportsAlone (d : Drafted) : Type 0 where
  -- no node moves
  pub moves : d.moves ≡ []
  -- no block is added
  pub added : d.added ≡ []

-- The draft shows a stable partition of a graph.
pub record ShowsStable (g : Graph) (q : Quotient) (d : Drafted) : Type 0 where
  -- the draft was begun over this base
  pub over : IsOver q.blocks.block_of q.blocks.labels d
  -- exactly the nodes have a block; the members of a block have one label, and parents in the same blocks
  pub stable : Stable (shape_of g) (shown_blocks q d)
  -- each node's block has the label of the node
  pub block_labels : BlocksHaveLabels (shown_blocks q d) (at (shown_labels q d)) (label_number g)
  -- the support of a pair of blocks is the number of edges from the first to the second
  pub supports : AreEdgeCounts g (shown_blocks q d) (shown_support q d)

-- The draft shows a partition of a graph that is stable except perhaps at some nodes, the targets.
pub record ShowsStableBut (g : Graph) (targets : List ℕ) (q : Quotient) (d : Drafted) : Type 0 where
  -- the draft was begun over this base
  pub over : IsOver q.blocks.block_of q.blocks.labels d
  -- exactly the nodes have a block; the members of a block have one label, and parents in the same blocks, but for the targets
  pub stable : StableBut (shape_of g) (shown_blocks q d) (has targets)
  -- each node's block has the label of the node, but for the targets
  pub block_labels : BlocksHaveLabelsBut (has targets) (shown_blocks q d) (at (shown_labels q d)) (label_number g)
  -- the support of a pair of blocks is the number of edges from the first to the second
  pub supports : AreEdgeCounts g (shown_blocks q d) (shown_support q d)

-- The base was a minimal 1-index of the graph before the change, and the draft shows each node of both graphs in its
-- old block.
pub record KeepsMinimal (a : Pending) (q : Quotient) (d : Drafted) : Type 0 where
  -- the partition of the base was stable before the change
  pub stable : Stable (shape_of a.before) q.blocks.block_of
  -- no two of its blocks could be merged
  pub minimal : Minimal (shape_of a.before) q.blocks.block_of
  -- what is a node of both graphs is shown in the block that it has in the base
  pub keeps : KeepsBlocks (shape_of a.before) (shape_of (graph_after a)) q.blocks.block_of (shown_blocks q d)

-- the block of each of these nodes is listed
abbrev pub ListsBlocksOf : List ℕ → List (Option ℕ) → List ℕ → Type 0
ListsBlocksOf nodes block list = (n b : ℕ) → IsTrue (has nodes n) → at block n ≡ Some b → IsTrue (has list b)

-- it holds of the two blocks, where both nodes have one
abbrev pub OfBlocks : Quotient → ℕ → ℕ → (ℕ → ℕ → Type 0) → Type 0
OfBlocks q u v P = (a b : ℕ) → at q.blocks.block_of u ≡ Some a → at q.blocks.block_of v ≡ Some b → P a b

-- what a draft shows is as its base was, but for nodes that the change reaches
abbrev pub ShowsUnreached : Pending → Quotient → Drafted → Type 0
ShowsUnreached a q d = KeepsUnreached a.before a.change q.blocks.block_of (shown_blocks q d)

-- the nodes that a change reaches, in the graph after it
abbrev pub reached_after : Pending → ℕ → Bool
reached_after a = reached a.before a.change
