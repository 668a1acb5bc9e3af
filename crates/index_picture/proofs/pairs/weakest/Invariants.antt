use Rattle.std.proofs.Common.{◌≡◌, ◌<◌, length}
use Rattle.index_picture.specs.DrawnBlocks.{no_pair, lightest}
use Rattle.index_picture.proofs.pairs.weakest.Given as goal

abbrev pub invariant-loop-n : goal.invariant-loop-n
invariant-loop-n l = record {
  place : l.place ≡ lightest (λ p. p.support) no_pair l.pairs l.n;
  within : 0 < length l.pairs → l.place < length l.pairs;
}
