use Rattle.index_picture.specs.Pictures.{block_line}
use Rattle.index_picture.specs.DrawnBlocks.{no_block}
use Rattle.index_picture.proofs.ListLaws.{flat_more}
use Rattle.index_picture.proofs.lines.push_blocks.Goals as goal

pub loop-block-preserved : goal.loop-block-preserved
loop-block-preserved c =
    flat_more (block_line c.args.labels.now.texts c.args.names.now c.args.most c.args.summary.now.blocks c.args.used.now) c.args.blocks.now c.args.out.now.items
    c.loop-block.out.items c.push_block.new.out.items c.loop-block.block-index no_block c.loop-block-test.true c.loop-block.invariant c.in_ok-push_block.ensures
