use Rattle.std.proofs.Common.{◌+◌, ◌≤◌, ◌-◌, length, take}
use Rattle.std.specs.List.{sum_by}
use Rattle.graph_spec.specs.Members.{has}
use Rattle.graph_spec.specs.Shapes.{shape_of}
use Rattle.graph_update.specs.PendingChanges.{graph_after}
use Rattle.bisim_spec.specs.declared.sides.Sides.TheVariants as sides
use Rattle.affected_nodes.specs.ReadCosts.{spread_cost}
use Rattle.affected_nodes.proofs.ReachRounds.{IsReaching}
use Rattle.affected_nodes.proofs.reaching.reached_nodes.Given as goal

abbrev pub invariant-rounds : goal.invariant-rounds
invariant-rounds g l = record {
  reaching : IsReaching (shape_of (graph_after l.after)) (has l.targets) l.from l.met.keys;
  cost : l.steps ≤ l.initial.steps + sum_by (spread_cost sides.Parents l.after) (take l.from l.met.keys);
}

abbrev pub decreases-rounds : goal.decreases-rounds
decreases-rounds g l = length (graph_after l.after).allocated - l.from
