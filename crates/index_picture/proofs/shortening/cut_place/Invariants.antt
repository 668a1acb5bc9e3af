use Rattle.std.proofs.Common.{◌≡◌, ◌≤◌}
use Rattle.index_picture.specs.ShownNames.{cut_place}
use Rattle.index_picture.proofs.shortening.cut_place.Given as goal

abbrev pub invariant-loop-n : goal.invariant-loop-n
invariant-loop-n l = record {
  place : cut_place l.text l.n ≡ cut_place l.text l.most;
  within : l.n ≤ l.most;
}

abbrev pub decreases-loop-n : goal.decreases-loop-n
decreases-loop-n l = l.n
