use Rattle.std.proofs.Common.{◌≡◌, length}
use Rattle.graph_update.specs.ShownNeighbours.{kept_at, AreShown}
use Rattle.graph_update.proofs.neighbours.first_kept.Given as goal

abbrev pub invariant-loop-m : goal.invariant-loop-m
invariant-loop-m l = record {
  same : kept_at l.side l.change l.n l.left ≡ kept_at l.side l.change l.n l.items;
  shown : AreShown l.change l.n l.left;
}

abbrev pub decreases-loop-m : goal.decreases-loop-m
decreases-loop-m l = length l.left
