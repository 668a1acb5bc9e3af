use Rattle.std.proofs.Common.{◌≡◌, drop}
use Rattle.index_picture.specs.DrawnBlocks.{heaviest_with, heaviest, no_block}
use Rattle.index_picture.proofs.blocks.largest.Given as goal

abbrev pub invariant-loop-block : goal.invariant-loop-block
invariant-loop-block l =
    heaviest_with l.most (λ b. b.count) no_block l.kept.items (drop l.block-index l.blocks) ≡ heaviest l.most (λ b. b.count) no_block l.blocks
