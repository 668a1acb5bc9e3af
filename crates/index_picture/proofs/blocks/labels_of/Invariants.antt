use Rattle.std.proofs.Common.{◌≡◌, drop}
use Rattle.index_picture.specs.DrawnBlocks.{labels_with, labels_used}
use Rattle.index_picture.proofs.blocks.labels_of.Given as goal

abbrev pub invariant-loop-block : goal.invariant-loop-block
invariant-loop-block l = labels_with l.labels.items (drop l.block-index l.blocks) ≡ labels_used l.blocks
