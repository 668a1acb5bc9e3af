use Rattle.std.proofs.Common.{◌≡◌, ◌≤◌, ◌-◌, length, drop}
use Rattle.graph_update.specs.ShownNeighbours.{new_at}
use Rattle.graph_update.proofs.neighbours.first_added.Given as goal

abbrev pub invariant-loop-i : goal.invariant-loop-i
invariant-loop-i l = record {
  same : new_at l.side (drop l.i l.change) l.n ≡ new_at l.side (drop l.from l.change) l.n;
  low : l.from ≤ l.i;
}

abbrev pub decreases-loop-i : goal.decreases-loop-i
decreases-loop-i l = length l.change - l.i
