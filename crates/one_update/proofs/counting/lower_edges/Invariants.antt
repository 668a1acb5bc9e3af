use Rattle.std.proofs.Common.{[], take}
use Rattle.graph_update.specs.PendingChanges.{graph_after}
use Rattle.graph_effects.specs.Effects.{without_edges}
use Rattle.one_update.specs.EffectDrafts.{IsIndexOnWay}
use Rattle.one_update.proofs.counting.lower_edges.Given as goal

abbrev pub invariant-lowers : goal.invariant-lowers
invariant-lowers l = record {
  way : IsIndexOnWay (graph_after l.after) (without_edges l.after.before (take l.edge-index l.effects.lost)) l.effects.came [] l.base l.draft;
}
