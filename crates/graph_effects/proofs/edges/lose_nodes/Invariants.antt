use Rattle.std.proofs.Common.{◌+◌, ◌*◌, ◌≤◌, take}
use Rattle.std.specs.List.{sum_by}
use Rattle.graph_spec.specs.Shapes.{shape_of}
use Rattle.bisim_spec.specs.Weights.{weight_at}
use Rattle.graph_update.specs.PendingChanges.{graph_after}
use Rattle.graph_effects.specs.Effects.{ListsPairs}
use Rattle.graph_effects.specs.StepEffects.{is_lost_with}
use Rattle.graph_effects.proofs.edges.lose_nodes.Given as goal

abbrev pub invariant-loop-i : goal.invariant-loop-i
invariant-loop-i g l = record {
  lost : ListsPairs (is_lost_with l.after.before (graph_after l.after) (take l.i l.gone)) l.lost.items;
  cost : l.steps ≤ l.initial.steps + 2 * sum_by (weight_at (shape_of l.after.before)) (take l.i l.gone);
}
