use Rattle.std.proofs.Common.{◌≡◌, ◌≤◌, ◌+◌, ◌-◌, length, drop}
use Rattle.change_spec.specs.Counts.{tally}
use Rattle.graph_update.specs.ShownNeighbours.{new_at, is_fresh}
use Rattle.graph_update.proofs.neighbours.fresh_count.Given as goal

abbrev pub invariant-loop-i : goal.invariant-loop-i
invariant-loop-i l = record {
  count : l.count + tally (is_fresh l.side l.graph.graph l.n) (new_at l.side (drop l.i l.change) l.n) ≡ tally (is_fresh l.side l.graph.graph l.n) (new_at l.side l.change l.n);
  few : l.count ≤ l.i;
}

abbrev pub decreases-loop-i : goal.decreases-loop-i
decreases-loop-i l = length l.change - l.i
