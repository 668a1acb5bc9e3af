-- What is drafted over a 1-index for the effects of a change, whatever its steps, before blocks are split and merged.
use Rattle.std.specs.Prelude.{◌≡◌, ◌<◌, ℕ, List, [], Some, None}
use Rattle.graph_spec.specs.Graphs.{Graph}
use Rattle.graph_spec.specs.Members.{at}
use Rattle.one_spec.specs.EdgeCounts.{AreEdgeCounts}
use Rattle.graph_update.specs.PendingChanges.{Pending, graph_after}
use Rattle.graph_effects.specs.Effects.{EffectLists, without_edges, with_edges}
use Rattle.graph_effects.specs.EffectBlocks.{HaveNodesMoved}
use Rattle.quotient.specs.Quotients.{Quotient}
use Rattle.quotient.specs.QuotientNeighbours.{RaisesPair, LowersPair}
use Rattle.quotient_draft.specs.Drafts.{Drafted, shown_blocks, shown_labels, shown_support, PutsNode}
use Rattle.quotient_draft.specs.Basis.{IsOver}

-- The index on the way to the graph g2: some nodes have come, each into a further block, some have gone, and supports count
-- the edges of the graph h. Blocks of the base keep their labels.
pub record IsIndexOnWay (g2 h : Graph) (came gone : List ℕ) (q : Quotient) (d : Drafted) : Type 0 where
  -- the draft is over the base
  pub over : IsOver q.blocks.block_of q.blocks.labels d
  -- blocks of the base keep their labels
  pub labels : (b l : ℕ) → at q.blocks.labels b ≡ Some l → at (shown_labels q d) b ≡ Some l
  -- nodes that have come are in blocks with their labels, those that have gone are in none, all others are where they were
  pub nodes : HaveNodesMoved g2 q.blocks.block_of (shown_blocks q d) (at (shown_labels q d)) came gone
  -- the support of a pair of blocks is the number of edges of h from the one to the other
  pub supports : AreEdgeCounts h (shown_blocks q d) (shown_support q d)

-- the node has come into a block with this label, and all blocks keep their labels
pub record IsNodePut (q : Quotient) (n label : ℕ) (d d2 : Drafted) : Type 0 where
  -- the block of the node
  pub block : ℕ
  -- the node is in it, and each other node is where it was
  pub blocks : PutsNode n (Some block) (shown_blocks q d) (shown_blocks q d2)
  -- it has this label
  pub label_is : at (shown_labels q d2) block ≡ Some label
  -- blocks keep their labels
  pub labels : (b l : ℕ) → at (shown_labels q d) b ≡ Some l → at (shown_labels q d2) b ≡ Some l
  -- supports are as before
  pub supports : (x y : ℕ) → shown_support q d2 x y ≡ shown_support q d x y
  -- the draft is still over the base
  pub over : IsOver q.blocks.block_of q.blocks.labels d2

-- the node has no block, and nothing else has changed
pub record IsNodeOut (q : Quotient) (n : ℕ) (d d2 : Drafted) : Type 0 where
  -- the node has no block, and each other node is where it was
  pub blocks : PutsNode n None (shown_blocks q d) (shown_blocks q d2)
  -- labels and supports are as before
  pub labels : shown_labels q d2 ≡ shown_labels q d
  pub supports : (x y : ℕ) → shown_support q d2 x y ≡ shown_support q d x y
  -- the draft is still over the base
  pub over : IsOver q.blocks.block_of q.blocks.labels d2

-- one edge fewer leads from the block of u to that of v, and nothing else has changed
pub record IsPairLowered (q : Quotient) (u v : ℕ) (d d2 : Drafted) : Type 0 where
  -- the blocks of u and of v
  pub first : ℕ
  pub second : ℕ
  -- u is in the first, v in the second
  pub from : at (shown_blocks q d) u ≡ Some first
  pub onto : at (shown_blocks q d) v ≡ Some second
  -- the support of this pair is one less, and all others are as before
  pub lowered : LowersPair first second (shown_support q d) (shown_support q d2)
  -- blocks and labels are as before
  pub blocks : shown_blocks q d2 ≡ shown_blocks q d
  pub labels : shown_labels q d2 ≡ shown_labels q d
  -- the draft is still over the base
  pub over : IsOver q.blocks.block_of q.blocks.labels d2

-- one edge more leads from the block of u to that of v, and nothing else has changed
pub record IsPairRaised (q : Quotient) (u v : ℕ) (d d2 : Drafted) : Type 0 where
  -- the blocks of u and of v
  pub first : ℕ
  pub second : ℕ
  -- u is in the first, v in the second
  pub from : at (shown_blocks q d) u ≡ Some first
  pub onto : at (shown_blocks q d) v ≡ Some second
  -- the support of this pair is one more, and all others are as before
  pub raised : RaisesPair first second (shown_support q d) (shown_support q d2)
  -- blocks and labels are as before
  pub blocks : shown_blocks q d2 ≡ shown_blocks q d
  pub labels : shown_labels q d2 ≡ shown_labels q d
  -- the draft is still over the base
  pub over : IsOver q.blocks.block_of q.blocks.labels d2

-- edges lead from the block of u to that of v
abbrev pub HaveSupport : Quotient → Drafted → ℕ → ℕ → Type 0
HaveSupport q d u v = (x y : ℕ) → at (shown_blocks q d) u ≡ Some x → at (shown_blocks q d) v ≡ Some y → 0 < shown_support q d x y

-- ---- how far the effects are drafted

-- nothing is drafted of the effects
abbrev pub NothingDrafted : Pending → Quotient → Drafted → Type 0
NothingDrafted a q d = IsIndexOnWay (graph_after a) a.before [] [] q d

-- the nodes that come are in blocks
abbrev pub NodesHaveCome : Pending → EffectLists → Quotient → Drafted → Type 0
NodesHaveCome a e q d = IsIndexOnWay (graph_after a) a.before e.came [] q d

-- then the edges that go have been taken out of the supports
abbrev pub EdgesHaveGone : Pending → EffectLists → Quotient → Drafted → Type 0
EdgesHaveGone a e q d = IsIndexOnWay (graph_after a) (without_edges a.before e.lost) e.came [] q d

-- then the nodes that go have no blocks
abbrev pub NodesHaveGone : Pending → EffectLists → Quotient → Drafted → Type 0
NodesHaveGone a e q d = IsIndexOnWay (graph_after a) (without_edges a.before e.lost) e.came e.gone q d

-- then the edges that come have been added to the supports
abbrev pub EdgesHaveCome : Pending → EffectLists → Quotient → Drafted → Type 0
EdgesHaveCome a e q d = IsIndexOnWay (graph_after a) (with_edges (without_edges a.before e.lost) e.added) e.came e.gone q d
