use Rattle.std.proofs.Common.{◌+◌, ◌≤◌, take}
use Rattle.std.specs.List.{sum_by}
use Rattle.graph_update.specs.PendingChanges.{graph_after}
use Rattle.ak_family.specs.LevelDrafts.{AreSameBut}
use Rattle.level_update.specs.LevelCosts.{move_cost}
use Rattle.level_update.specs.LevelEffects.{IsLevelRelabelled}
use Rattle.level_update.proofs.relabelling.relabel_nodes.Given as goal

abbrev pub invariant-moves : goal.invariant-moves
invariant-moves g l = record {
  way : IsLevelRelabelled l.effects (take l.n-index l.list) (graph_after l.after) l.family l.draft l.i;
  others : AreSameBut l.i l.initial.draft l.draft;
  cost : l.steps ≤ l.initial.steps + sum_by (move_cost l.after) (take l.n-index l.list);
}
