use Rattle.std.proofs.Common.{ℕ, ◌+◌, ◌-◌, ◌*◌, Bool, length, cond, nat_eq}
use Rattle.std.specs.Prelude.{IsTrue}
use Rattle.std.specs.List.{IsDistinct}
use Rattle.graph_spec.specs.Members.{at, has}
use Rattle.graph_spec.specs.Shapes.{shape_of}
use Rattle.label_graph.specs.GraphViews.{label_number}
use Rattle.change_spec.specs.Costs.{cost}
use Rattle.one_spec.specs.BlockLabels.{BlocksHaveLabels}
use Rattle.one_spec.specs.Splits.{IsClosed, IsSplitInside}
use Rattle.one_spec.specs.EdgeCounts.{AreEdgeCounts}
use Rattle.graph_update.specs.PendingChanges.{graph_after}
use Rattle.quotient_draft.specs.Basis.{IsOver}
use Rattle.quotient_draft.specs.Drafts.{shown_blocks, shown_labels, shown_support}
use Rattle.one_split.specs.SplitCosts.{HasCost}
use Rattle.one_split.specs.NodeTargetBlocks.{AreBlocks}
use Rattle.one_split.proofs.targets.split.Given as goal

abbrev pub invariant-rounds : goal.invariant-rounds
invariant-rounds g l = record {
  over : IsOver l.base.blocks.block_of l.base.blocks.labels l.draft;
  split : (inside : ℕ → Bool) → IsClosed (shape_of (graph_after l.after)) inside → ((n : ℕ) → IsTrue (has l.targets n) → IsTrue (inside n))
      → IsSplitInside (shape_of (graph_after l.after)) inside (shown_blocks l.base l.fn.draft) (shown_blocks l.base l.draft) l.next.items l.new_blocks.items;
  once : IsDistinct nat_eq l.next.items;
  block_labels : BlocksHaveLabels (shown_blocks l.base l.draft) (at (shown_labels l.base l.draft)) (label_number (graph_after l.after));
  supports : AreEdgeCounts (graph_after l.after) (shown_blocks l.base l.draft) (shown_support l.base l.draft);
  new_blocks : AreBlocks (at (shown_labels l.base l.draft)) l.new_blocks.items;
  cost : (inside : ℕ → Bool) → IsClosed (shape_of (graph_after l.after)) inside → ((n : ℕ) → IsTrue (has l.targets n) → IsTrue (inside n))
      → HasCost (cost l.after.change l.after.before inside) (length l.new_blocks.items) (l.steps - l.fn.steps) l.next.items;
}

abbrev pub decreases-rounds : goal.decreases-rounds
decreases-rounds g l = 2 * (length (graph_after l.after).allocated - length l.new_blocks.items) + cond (nat_eq (length l.next.items) 0) 0 1
