use Rattle.std.proofs.Common.{[], take}
use Rattle.graph_update.specs.PendingChanges.{graph_after}
use Rattle.ak_family.specs.LevelDrafts.{AreSameBut}
use Rattle.level_update.specs.LevelEffects.{IsLevelOnWay}
use Rattle.level_update.proofs.adding.add_nodes.Given as goal

abbrev pub invariant-joins : goal.invariant-joins
invariant-joins l = record {
  way : IsLevelOnWay (graph_after l.after) l.after.before (take l.n-index l.came) [] l.family l.draft l.i;
  others : AreSameBut l.i l.initial.draft l.draft;
}
