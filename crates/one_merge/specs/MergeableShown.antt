-- Merging two blocks as a draft shows them.
use Rattle.std.specs.Prelude.{◌≡◌, ℕ, List, Option, Some, false, if◌then◌else◌}
use Rattle.graph_spec.specs.Members.{at, has}
use Rattle.graph_spec.specs.Graphs.{Graph}
use Rattle.graph_spec.specs.Shapes.{Shape}
use Rattle.bisim_spec.specs.IndexGraphs.{SupportTable, support_at}
use Rattle.one_spec.specs.BlockLabels.{BlocksHaveLabels}
use Rattle.one_spec.specs.EdgeCounts.{AreEdgeCounts}
use Rattle.one_spec.specs.Viewed.{IsViewed}
use Rattle.quotient.specs.Quotients.{Quotient}
use Rattle.quotient_draft.specs.Drafts.{Drafted, shown_labels, shown_blocks, shown_support, with_supports}
use Rattle.one_merge.specs.MergeTests.{shown_adjacent, AreMergeable, AreNotMergeable}
use Rattle.one_merge.specs.Merged.{HasGraph}

-- the draft shows a stable partition of the graph with the right tables
abbrev pub ShowsStablePartition : Shape → Quotient → Drafted → Type 0
ShowsStablePartition s q d = IsViewed s (shown_blocks q d) (at (shown_labels q d)) (shown_adjacent q d)

-- the supports as shown are those of some graph with few edges, and blocks with members have labels
abbrev pub ShowsSupportsOfGraph : Quotient → Drafted → Type 0
ShowsSupportsOfGraph q d = HasGraph (shown_blocks q d) (at (shown_labels q d)) (shown_support q d)

-- the two blocks as shown can be merged
abbrev pub AreShownMergeable : Quotient → Drafted → ℕ → ℕ → Type 0
AreShownMergeable q d a b = AreMergeable (shown_blocks q d) (at (shown_labels q d)) (shown_adjacent q d) a b

-- the two blocks as shown can't be merged
abbrev pub AreShownNotMergeable : Quotient → Drafted → ℕ → ℕ → Type 0
AreShownNotMergeable q d a b = AreNotMergeable (shown_blocks q d) (at (shown_labels q d)) (shown_adjacent q d) a b

-- whatever the graph: where the supports were the numbers of its edges, they are so still
abbrev pub StayEdgeCounts : Quotient → Drafted → Drafted → Type 0
StayEdgeCounts q d d2 = (g : Graph) → AreEdgeCounts g (shown_blocks q d) (shown_support q d) → AreEdgeCounts g (shown_blocks q d2) (shown_support q d2)

-- whatever the labels of nodes: where each node had that of its block, it has it still
abbrev pub LabelsStayRight : Quotient → Drafted → Drafted → Type 0
LabelsStayRight q d d2 = (node_labels : ℕ → Option ℕ) → BlocksHaveLabels (shown_blocks q d) (at (shown_labels q d)) node_labels
    → BlocksHaveLabels (shown_blocks q d2) (at (shown_labels q d2)) node_labels

-- whatever the graph: where a stable partition of it was shown, with the right tables, one is still
abbrev pub KeepsStablePartition : Quotient → Drafted → Drafted → Type 0
KeepsStablePartition q d d2 = (s : Shape) → ShowsStablePartition s q d → ShowsStablePartition s q d2

-- whatever the base: from all blocks but these the support to b is that of the base
abbrev pub AreDraftedParents : Drafted → ℕ → List ℕ → Type 0
AreDraftedParents d b list = (t : SupportTable) (a : ℕ) → has list a ≡ false → support_at (with_supports t d.supports) a b ≡ support_at t a b

-- these nodes go into this block, and all others stay
abbrev pub PutsNodes : List ℕ → ℕ → List (Option ℕ) → List (Option ℕ) → Type 0
PutsNodes nodes b block block2 = (m : ℕ) → at block2 m ≡ (if has nodes m then Some b else at block m)
