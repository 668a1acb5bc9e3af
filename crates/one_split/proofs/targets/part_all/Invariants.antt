use Rattle.std.proofs.Common.{ℕ, ◌+◌, ◌*◌, ◌≤◌, Bool, length, take, drop}
use Rattle.std.specs.Prelude.{IsTrue}
use Rattle.std.specs.List.{sum_by}
use Rattle.graph_spec.specs.Members.{at, has}
use Rattle.graph_spec.specs.Shapes.{shape_of}
use Rattle.label_graph.specs.GraphViews.{label_number}
use Rattle.one_spec.specs.BlockLabels.{BlocksHaveLabelsBut}
use Rattle.one_spec.specs.Splits.{IsClosed}
use Rattle.one_spec.specs.EdgeCounts.{AreEdgeCounts}
use Rattle.graph_update.specs.PendingChanges.{graph_after}
use Rattle.quotient_draft.specs.Basis.{IsOver}
use Rattle.quotient_draft.specs.Drafts.{shown_blocks, shown_labels, shown_support}
use Rattle.one_split.specs.SplitCosts.{move_cost}
use Rattle.one_split.specs.NodeTargetBlocks.{AreBlocks, MembersHaveLabels}
use Rattle.one_split.specs.SplitStates.{IsSplitBut}
use Rattle.one_split.proofs.targets.part_all.Given as goal

abbrev pub invariant-loop-t : goal.invariant-loop-t
invariant-loop-t g l = record {
  over : IsOver l.base.blocks.block_of l.base.blocks.labels l.draft;
  live : MembersHaveLabels (shown_blocks l.base l.draft) (at (shown_labels l.base l.draft));
  parting : (inside : ℕ → Bool) → IsClosed (shape_of (graph_after l.after)) inside → ((n : ℕ) → IsTrue (has l.targets n) → IsTrue (inside n))
      → IsSplitBut (shape_of (graph_after l.after)) inside (shown_blocks l.base l.initial.draft) (shown_blocks l.base l.draft) l.next.list.items (λ n. has (drop l.t-index l.targets) n) l.new_blocks.items;
  block_labels : BlocksHaveLabelsBut (λ n. has (drop l.t-index l.targets) n) (shown_blocks l.base l.draft) (at (shown_labels l.base l.draft)) (label_number (graph_after l.after));
  supports : AreEdgeCounts (graph_after l.after) (shown_blocks l.base l.draft) (shown_support l.base l.draft);
  new_blocks : AreBlocks (at (shown_labels l.base l.draft)) l.new_blocks.items;
  charged : (w : ℕ) → ((n : ℕ) → IsTrue (has l.targets n) → move_cost l.after n ≤ w) → l.steps ≤ l.initial.steps + length l.new_blocks.items * w;
  cost : l.steps ≤ l.initial.steps + sum_by (move_cost l.after) (take l.t-index l.targets);
}
