use Rattle.std.proofs.Common.{take}
use Rattle.graph_update.specs.PendingChanges.{graph_after}
use Rattle.graph_effects.specs.Effects.{without_edges}
use Rattle.one_update.specs.EffectDrafts.{IsIndexOnWay}
use Rattle.one_update.proofs.leaving.leave_nodes.Given as goal

abbrev pub invariant-leaves : goal.invariant-leaves
invariant-leaves l = record {
  way : IsIndexOnWay (graph_after l.after) (without_edges l.after.before l.effects.lost) l.effects.came (take l.n-index l.gone) l.base l.draft;
}
