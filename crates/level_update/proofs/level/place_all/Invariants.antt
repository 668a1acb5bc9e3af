use Rattle.std.proofs.Common.{◌+◌, ◌≤◌, take}
use Rattle.std.specs.List.{sum_by}
use Rattle.graph_update.specs.PendingChanges.{graph_after}
use Rattle.level_update.specs.Placed.{ArePlaced}
use Rattle.level_update.specs.LevelCosts.{place_cost}
use Rattle.level_update.proofs.level.place_all.Given as goal

abbrev pub invariant-loop-n : goal.invariant-loop-n
invariant-loop-n g l = record {
  placed : ArePlaced l.sides (graph_after l.after) l.family l.initial.draft l.draft l.i (take l.n-index l.nodes);
  cost : l.steps ≤ l.initial.steps + sum_by (place_cost l.sides l.after) (take l.n-index l.nodes);
}
