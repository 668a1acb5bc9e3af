use Rattle.extent_report.specs.Summaries.{line_at}
use Rattle.extent_report.proofs.RisingLists.{flat_more}
use Rattle.extent_report.proofs.gathered.push_blocks.Goals as goal

pub loop-n-preserved : goal.loop-n-preserved
loop-n-preserved c = flat_more (line_at c.args.labels.now.texts c.args.summary.now.blocks) c.args.nodes.now _ _ _ _ 0 c.loop-n-test.true c.loop-n.invariant c.in_ok-push_block.ensures
