use Rattle.std.proofs.Common.{◌≡◌}
use Rattle.index_picture.specs.DrawnBlocks.{blocks_below}
use Rattle.index_picture.specs.MetBlocks.{AreMet}
use Rattle.index_picture.proofs.blocks.push_blocks.Given as goal

abbrev pub invariant-loop-n : goal.invariant-loop-n
invariant-loop-n l = record {
  blocks : l.blocks.items ≡ blocks_below l.summary.blocks l.n;
  met : AreMet l.summary.blocks l.n l.met;
}
