use Rattle.std.proofs.Common.{◌≡◌, ◌++◌, take}
use Rattle.std.specs.List.{flat_map}
use Rattle.index_picture.specs.Pictures.{block_line}
use Rattle.index_picture.proofs.lines.push_blocks.Given as goal

abbrev pub invariant-loop-block : goal.invariant-loop-block
invariant-loop-block l =
    l.out.items ≡ l.fn.out.items ++ flat_map (block_line l.labels.texts l.names l.most l.summary.blocks l.used) (take l.block-index l.blocks)
