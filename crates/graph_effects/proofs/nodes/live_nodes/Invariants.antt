use Rattle.std.proofs.Common.{◌≤◌}
use Rattle.graph_spec.specs.Members.{Lists}
use Rattle.graph_update.specs.PendingChanges.{graph_after}
use Rattle.graph_effects.specs.StepEffects.{comes_below}
use Rattle.graph_effects.proofs.nodes.live_nodes.Given as goal

abbrev pub invariant-loop-n : goal.invariant-loop-n
invariant-loop-n l = record {
  listed : Lists (comes_below (graph_after l.after) l.first l.n) l.nodes.items;
  low : l.first ≤ l.n;
  high : l.n ≤ l.end;
}
