use Rattle.std.proofs.Common.{◌≡◌, ◌≤◌, ◌-◌, length, drop}
use Rattle.graph_update.specs.ShownNeighbours.{concerned_at}
use Rattle.graph_update.proofs.neighbours.concerned_at_either.Given as goal

abbrev pub invariant-steps : goal.invariant-steps
invariant-steps l = record {
  node : concerned_at l.side (drop l.i l.change) l.n l.m ≡ concerned_at l.side (drop l.from l.change) l.n l.m;
  low : l.from ≤ l.i;
  neighbour : concerned_at l.side (drop l.j l.change) l.n l.m ≡ concerned_at l.side (drop l.from l.change) l.n l.m;
}

abbrev pub decreases-steps : goal.decreases-steps
decreases-steps l = length l.change - l.i
