use Rattle.std.proofs.Common.{ℕ, Option, IsTrue}
use Rattle.graph_spec.specs.Members.{at, has}
use Rattle.graph_spec.specs.Graphs.{Graph}
use Rattle.graph_spec.specs.Shapes.{Shape}
use Rattle.one_spec.specs.BlockLabels.{BlocksHaveLabels}
use Rattle.one_spec.specs.EdgeCounts.{AreEdgeCounts}
use Rattle.quotient_draft.specs.Drafts.{shown_labels, shown_blocks, shown_support}
use Rattle.quotient_draft.specs.Basis.{IsOver}
use Rattle.one_merge.specs.MergeTests.{shown_adjacent}
use Rattle.one_merge.specs.ShownMerges.{ShowsStablePartition, ShowsSupportsOfGraph, AreShownMergeCandidates, IsMerging, inhabited}
use Rattle.one_merge.specs.ParentlessBlocks.{CoversBase, CoversShown}
use Rattle.one_merge.proofs.merging.merge_pairs.Given as goal

abbrev pub invariant-pairs : goal.invariant-pairs
invariant-pairs l = record {
  over : IsOver l.base.blocks.block_of l.base.blocks.labels l.draft;
  graph : ShowsSupportsOfGraph l.base l.draft;
  covers : CoversBase l.base l.parentless;
  shown : CoversShown l.base l.draft l.parentless;
  merging : (s : Shape) → ShowsStablePartition s l.base l.fn.draft → AreShownMergeCandidates s l.base l.fn.draft (λ b. IsTrue (has l.fn.merge_candidates b))
      → IsMerging s (shown_blocks l.base l.fn.draft) (shown_blocks l.base l.draft) (at (shown_labels l.base l.draft)) (shown_adjacent l.base l.draft) l.merge_candidates;
  supports : (g : Graph) → AreEdgeCounts g (shown_blocks l.base l.fn.draft) (shown_support l.base l.fn.draft) → AreEdgeCounts g (shown_blocks l.base l.draft) (shown_support l.base l.draft);
  block_labels : (node_labels : ℕ → Option ℕ) → BlocksHaveLabels (shown_blocks l.base l.fn.draft) (at (shown_labels l.base l.fn.draft)) node_labels
      → BlocksHaveLabels (shown_blocks l.base l.draft) (at (shown_labels l.base l.draft)) node_labels;
}

abbrev pub decreases-pairs : goal.decreases-pairs
decreases-pairs l = inhabited l.base l.draft
