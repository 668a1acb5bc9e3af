use Rattle.std.proofs.Common.{◌≡◌, ◌+◌, ◌≤◌, take}
use Rattle.std.specs.List.{sum_by}
use Rattle.graph_spec.specs.Members.{has}
use Rattle.graph_spec.specs.Shapes.{shape_of}
use Rattle.graph_update.specs.PendingChanges.{graph_after}
use Rattle.bisim_spec.specs.SidedLevels.{spread}
use Rattle.affected_nodes.specs.ReadCosts.{spread_cost}
use Rattle.affected_nodes.proofs.Distances.{IsSearched}
use Rattle.affected_nodes.proofs.searching.affected_nodes.Given as goal

abbrev pub invariant-loop : goal.invariant-loop
invariant-loop g l = record {
  searched : IsSearched (spread l.sides (shape_of (graph_after l.after))) (has l.targets) l.counter l.from l.met.keys l.ends.items;
  cost : l.steps ≤ l.initial.steps + sum_by (spread_cost l.sides l.after) (take l.from l.met.keys);
  none : l.counter ≡ 0 → l.steps ≡ l.initial.steps;
}
