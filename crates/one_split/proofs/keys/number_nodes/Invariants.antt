use Rattle.std.proofs.Common.{◌≡◌, ◌≤◌, ◌+◌, take, length}
use Rattle.std.specs.List.{sum_by}
use Rattle.graph_spec.specs.Graphs.{has_edge}
use Rattle.graph_update.specs.PendingChanges.{graph_after}
use Rattle.quotient_draft.specs.Drafts.{shown_blocks}
use Rattle.quotient_moves.specs.NeighbourCosts.{parents_cost}
use Rattle.one_split.specs.Numbered.{HaveNumbers}
use Rattle.one_split.proofs.keys.number_nodes.Given as goal

abbrev pub invariant-loop-n : goal.invariant-loop-n
invariant-loop-n g l = record {
  count : length l.numbers.items ≡ l.n-index;
  numbered : HaveNumbers (shown_blocks l.base l.draft) (has_edge (graph_after l.after)) l.keys l.nodes l.numbers.items;
  cost : l.steps ≤ l.initial.steps + sum_by (parents_cost l.after) (take l.n-index l.nodes);
}
