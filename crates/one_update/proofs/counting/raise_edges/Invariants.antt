use Rattle.std.proofs.Common.{take}
use Rattle.graph_update.specs.PendingChanges.{graph_after}
use Rattle.graph_effects.specs.Effects.{without_edges, with_edges}
use Rattle.one_update.specs.EffectDrafts.{IsIndexOnWay}
use Rattle.one_update.proofs.counting.raise_edges.Given as goal

abbrev pub invariant-raises : goal.invariant-raises
invariant-raises l = record {
  way : IsIndexOnWay (graph_after l.after) (with_edges (without_edges l.after.before l.effects.lost) (take l.edge-index l.effects.added)) l.effects.came l.effects.gone l.base l.draft;
}
