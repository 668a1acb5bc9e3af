use Rattle.std.proofs.Common.{◌+◌, ◌*◌, ◌≤◌}
use Rattle.std.specs.List.{sum_by}
use Rattle.graph_update.specs.PendingChanges.{graph_after}
use Rattle.level_update.specs.LevelCosts.{move_cost}
use Rattle.level_update.specs.LevelEffects.{lone_nodes}
use Rattle.level_update.proofs.EffectLevels.{AreDraftedTo}
use Rattle.level_update.proofs.effects.draft_levels.Given as goal

abbrev pub invariant-levels : goal.invariant-levels
invariant-levels g l = record {
  drafted : AreDraftedTo (lone_nodes l.effects) (graph_after l.after) l.family l.draft l.i;
  cost : l.steps ≤ l.initial.steps + l.i * sum_by (move_cost l.after) l.effects.relabelled;
}
