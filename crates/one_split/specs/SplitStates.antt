-- What splitting from some targets asks, and targets that are examined one after another.
use Rattle.std.specs.Prelude.{◌≡◌, ◌≢◌, ◌⊎◌, ℕ, ◌||◌, Bool, List, [], Option, Some, IsTrue, IsFalse, nat_eq, ◌+◌, ◌*◌, ◌≤◌, IsSome}
use Rattle.std.specs.List.{IsDistinct}
use Rattle.graph_spec.specs.Members.{at, has}
use Rattle.graph_spec.specs.Shapes.{Shape, IsNode, IsParent, shape_of}
use Rattle.label_graph.specs.GraphViews.{label_number}
use Rattle.bisim_spec.specs.Partitions.{Together}
use Rattle.bisim_spec.specs.Stability.{StableBut}
use Rattle.bisim_spec.specs.Weights.{size_of}
use Rattle.one_spec.specs.BlockLabels.{BlocksHaveLabelsBut}
use Rattle.one_spec.specs.SplitRoundSteps.{IsRefinement, SameBut}
use Rattle.one_spec.specs.EdgeCounts.{AreEdgeCounts}
use Rattle.one_spec.specs.Splits.{IsClosed, IsSplitInside}
use Rattle.change_spec.specs.Costs.{cost}
use Rattle.graph_update.specs.PendingChanges.{Pending, graph_after}
use Rattle.quotient.specs.Quotients.{Quotient}
use Rattle.quotient_draft.specs.Basis.{IsOver}
use Rattle.quotient_draft.specs.Drafts.{Drafted, shown_blocks, shown_labels, shown_support}

-- The draft shows a partition of the graph after the change, with the numbers of edges; it is stable, and blocks have
-- the labels of their members, except perhaps at the targets. Each target is given once, and no block was made.
pub record CanSplit (a : Pending) (base : Quotient) (d : Drafted) (targets new_blocks : List ℕ) : Type 0 where
  -- the draft is over the base
  pub over : IsOver base.blocks.block_of base.blocks.labels d
  -- no target stands twice
  pub once : IsDistinct nat_eq targets
  -- as shown the partition is stable, except perhaps at the targets
  pub stable : StableBut (shape_of (graph_after a)) (shown_blocks base d) (has targets)
  -- as shown blocks have their members' labels, except perhaps at the targets
  pub block_labels : BlocksHaveLabelsBut (has targets) (shown_blocks base d) (at (shown_labels base d)) (label_number (graph_after a))
  -- no block was made yet
  pub none : new_blocks ≡ []
  -- as shown supports are numbers of edges in the graph after
  pub supports : AreEdgeCounts (graph_after a) (shown_blocks base d) (shown_support base d)

-- passes one of two tests
abbrev pub either : (ℕ → Bool) → (ℕ → Bool) → ℕ → Bool
either f g n = f n || g n

-- After some targets: the partition is stable except perhaps at the targets that are left and the nodes that are
-- examined next, and for the rest as for `IsSplitInside`.
pub record IsSplitBut (s : Shape) (inside : ℕ → Bool) (first p : List (Option ℕ)) (next : List ℕ) (rest : ℕ → Bool) (new_blocks : List ℕ) : Type 0 where
  -- stable, except perhaps at the nodes that are examined next and the targets that are left
  pub stable : StableBut s p (either (has next) rest)
  -- each block lies within one of the first partition
  pub within : IsRefinement first p
  -- outside, nodes are together exactly where they were in the first partition
  pub same : SameBut first p inside
  -- nodes that are together have one label, if neither is a target that is left
  pub labels : (u v : ℕ) → IsFalse (rest u) → IsFalse (rest v) → Together p u v → s.label u ≡ s.label v
  -- what is examined next are nodes
  pub next_nodes : (n : ℕ) → IsTrue (has next n) → IsNode s n
  -- each of them is inside
  pub next_inside : (n : ℕ) → IsTrue (has next n) → IsTrue (inside n)
  -- each is a child of a node inside
  pub next_from : (n : ℕ) → IsTrue (has next n) → (q : ℕ) × IsTrue (inside q) × IsParent s q n
  -- each node is in a block that was made, or in its block of the first partition
  pub moved_new : (n b : ℕ) → at p n ≡ Some b → IsTrue (has new_blocks b) ⊎ (at first n ≡ Some b)
  -- no block that was made is listed twice
  pub new_once : IsDistinct nat_eq new_blocks
  -- members of these blocks lie inside
  pub new_inside : (b n : ℕ) → IsTrue (has new_blocks b) → at p n ≡ Some b → IsTrue (inside n)
  -- each of these blocks has a member
  pub new_some : (b : ℕ) → IsTrue (has new_blocks b) → (n : ℕ) × (at p n ≡ Some b)
  -- none of their members is a target that is left
  pub new_off : (b n : ℕ) → IsTrue (has new_blocks b) → at p n ≡ Some b → IsFalse (rest n)

-- the first of what is left is t, the rest is what comes behind it
pub record IsFirstLeft (rest rest2 : ℕ → Bool) (t : ℕ) : Type 0 where
  -- t was left
  pub here : IsTrue (rest t)
  -- it isn't any more
  pub gone : IsFalse (rest2 t)
  -- what is left was left
  pub within : (n : ℕ) → IsTrue (rest2 n) → IsTrue (rest n)
  -- what is no longer left, other than t, wasn't left before
  pub only : (n : ℕ) → IsFalse (rest2 n) → n ≢ t → IsFalse (rest n)

-- the blocks of the targets are blocks as shown
abbrev pub HaveLiveBlocks : List ℕ → Quotient → Drafted → Type 0
HaveLiveBlocks targets base d = (n b : ℕ) → IsTrue (has targets n) → at (shown_blocks base d) n ≡ Some b → IsSome (at (shown_labels base d) b)

-- Whatever closed set has the target: where the partition was stable except perhaps at some targets, of which this one
-- is the first, it is so except perhaps at the others and at the nodes that are examined next.
abbrev pub PartsTarget : Pending → ℕ → Quotient → Drafted → Drafted → List ℕ → List ℕ → List ℕ → List ℕ → Type 0
PartsTarget a target base d d2 next next2 new_blocks new_blocks2 = (inside : ℕ → Bool) (first : List (Option ℕ)) (rest rest2 : ℕ → Bool)
    → IsClosed (shape_of (graph_after a)) inside → IsTrue (inside target) → IsFirstLeft rest rest2 target
    → IsSplitBut (shape_of (graph_after a)) inside first (shown_blocks base d) next rest new_blocks
    → IsSplitBut (shape_of (graph_after a)) inside first (shown_blocks base d2) next2 rest2 new_blocks2

-- where blocks had the labels of their members except perhaps at some targets, of which this one is the first, they
-- have them except perhaps at the others
abbrev pub LabelsRightAfter : Pending → ℕ → Quotient → Drafted → Drafted → Type 0
LabelsRightAfter a target base d d2 = (rest rest2 : ℕ → Bool) → IsFirstLeft rest rest2 target
    → BlocksHaveLabelsBut rest (shown_blocks base d) (at (shown_labels base d)) (label_number (graph_after a))
    → BlocksHaveLabelsBut rest2 (shown_blocks base d2) (at (shown_labels base d2)) (label_number (graph_after a))

-- whatever set is closed under children and has the targets: blocks are split inside it
abbrev pub SplitsInside : Pending → List ℕ → Quotient → Drafted → Drafted → List ℕ → List ℕ → Type 0
SplitsInside a targets base d d2 next new_blocks =
    (inside : ℕ → Bool) → IsClosed (shape_of (graph_after a)) inside → ((n : ℕ) → IsTrue (has targets n) → IsTrue (inside n))
    → IsSplitInside (shape_of (graph_after a)) inside (shown_blocks base d) (shown_blocks base d2) next new_blocks

-- whatever set is closed under children and has the targets: the steps are at most 4 (r + 1) w, where the set has r node
-- numbers and w is what the change costs at it
abbrev pub CostsInside : Pending → List ℕ → ℕ → ℕ → Type 0
CostsInside a targets steps steps2 =
    (inside : ℕ → Bool) → IsClosed (shape_of (graph_after a)) inside → ((n : ℕ) → IsTrue (has targets n) → IsTrue (inside n))
    → steps2 ≤ steps + 4 * ((size_of (shape_of (graph_after a)) inside + 1) * cost a.change a.before inside)
