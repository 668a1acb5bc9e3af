use Rattle.std.proofs.Common.{◌≡◌, ◌<◌, length}
use Rattle.index_picture.specs.DrawnBlocks.{no_block, lightest}
use Rattle.index_picture.proofs.blocks.smallest.Given as goal

abbrev pub invariant-loop-n : goal.invariant-loop-n
invariant-loop-n l = record {
  place : l.place ≡ lightest (λ b. b.count) no_block l.blocks l.n;
  within : 0 < length l.blocks → l.place < length l.blocks;
}
