use Rattle.std.proofs.Common.{◌≡◌, ◌≤◌, length}
use Rattle.index_picture.specs.ShownNames.{part_place}
use Rattle.index_picture.proofs.shortening.part_place.Given as goal

abbrev pub invariant-loop-n : goal.invariant-loop-n
invariant-loop-n l = record {
  place : part_place l.text l.n ≡ part_place l.text (length l.text);
  within : l.n ≤ length l.text;
}

abbrev pub decreases-loop-n : goal.decreases-loop-n
decreases-loop-n l = l.n
