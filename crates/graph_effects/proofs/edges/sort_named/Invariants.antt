use Rattle.std.proofs.Common.{◌≡◌, ◌++◌, ◌+◌, ◌≤◌, drop}
use Rattle.graph_update.specs.PendingChanges.{graph_after}
use Rattle.graph_effects.specs.Effects.{is_new_edge}
use Rattle.graph_effects.specs.StepEffects.{named_where, is_cut}
use Rattle.graph_effects.proofs.edges.sort_named.Given as goal

abbrev pub invariant-loop-i : goal.invariant-loop-i
invariant-loop-i g l = record {
  lost : l.lost.items ++ named_where (is_cut l.after.before (graph_after l.after)) (drop l.i l.change)
      ≡ l.initial.lost.items ++ named_where (is_cut l.after.before (graph_after l.after)) l.change;
  added : l.added.items ++ named_where (is_new_edge l.after.before (graph_after l.after)) (drop l.i l.change)
      ≡ l.initial.added.items ++ named_where (is_new_edge l.after.before (graph_after l.after)) l.change;
  cost : l.steps ≤ l.initial.steps + l.i;
}
