use Rattle.std.proofs.Common.{◌+◌, ◌≤◌, take}
use Rattle.std.specs.List.{sum_by}
use Rattle.graph_spec.specs.Shapes.{shape_of}
use Rattle.graph_update.specs.PendingChanges.{graph_after}
use Rattle.bisim_spec.specs.SidedLevels.{spread}
use Rattle.affected_nodes.specs.ReadCosts.{spread_cost}
use Rattle.affected_nodes.specs.AffectedSearches.{IsSpread}
use Rattle.affected_nodes.proofs.reading.spread.Given as goal

abbrev pub invariant-loop-i : goal.invariant-loop-i
invariant-loop-i g l = record {
  spread : IsSpread (spread l.sides (shape_of (graph_after l.after))) l.initial.met.keys l.i l.met.keys;
  cost : l.steps + sum_by (spread_cost l.sides l.after) (take l.from l.initial.met.keys) ≤ l.initial.steps + sum_by (spread_cost l.sides l.after) (take l.i l.initial.met.keys);
}
