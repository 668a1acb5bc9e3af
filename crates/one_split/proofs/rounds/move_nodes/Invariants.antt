use Rattle.std.proofs.Common.{◌≡◌, ◌≤◌, ◌+◌, take}
use Rattle.std.specs.List.{sum_by}
use Rattle.graph_spec.specs.Shapes.{shape_of}
use Rattle.bisim_spec.specs.Partitions.{IsPartition}
use Rattle.one_spec.specs.EdgeCounts.{AreEdgeCounts}
use Rattle.graph_update.specs.PendingChanges.{graph_after}
use Rattle.quotient_draft.specs.Basis.{IsOver}
use Rattle.quotient_draft.specs.Drafts.{shown_blocks, shown_support}
use Rattle.one_split.specs.SplitCosts.{move_cost}
use Rattle.one_split.specs.NodeTargetBlocks.{HaveGone, ListsChildrenOf}
use Rattle.one_split.proofs.rounds.move_nodes.Given as goal

abbrev pub invariant-loop-i : goal.invariant-loop-i
invariant-loop-i g l = record {
  over : IsOver l.base.blocks.block_of l.base.blocks.labels l.draft;
  partition : IsPartition (shape_of (graph_after l.after)) (shown_blocks l.base l.draft);
  gone : HaveGone (shown_blocks l.base l.initial.draft) (shown_blocks l.base l.draft) l.nodes l.groups.numbers.items l.groups.target_blocks.items l.i;
  next : ListsChildrenOf (shape_of (graph_after l.after)) l.nodes l.groups.numbers.items l.groups.target_blocks.items l.i l.next.list.items;
  supports : AreEdgeCounts (graph_after l.after) (shown_blocks l.base l.draft) (shown_support l.base l.draft);
  added : l.draft.added ≡ l.initial.draft.added;
  cost : l.steps ≤ l.initial.steps + sum_by (move_cost l.after) (take l.i l.nodes);
}
