use Rattle.std.proofs.Common.{[], take}
use Rattle.graph_update.specs.PendingChanges.{graph_after}
use Rattle.graph_effects.specs.Effects.{without_edges}
use Rattle.ak_family.specs.LevelDrafts.{AreSameBut}
use Rattle.level_update.specs.LevelEffects.{IsLevelOnWay}
use Rattle.level_update.proofs.counting.lower_edges.Given as goal

abbrev pub invariant-lowers : goal.invariant-lowers
invariant-lowers l = record {
  way : IsLevelOnWay (graph_after l.after) (without_edges l.after.before (take l.edge-index l.effects.lost)) l.effects.came [] l.family l.draft l.i;
  others : AreSameBut l.i l.initial.draft l.draft;
}
