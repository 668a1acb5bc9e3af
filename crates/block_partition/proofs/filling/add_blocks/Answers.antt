use Rattle.std.proofs.Common.{arith, rules}
use Rattle.std.proofs.lemmas.Option.{slice_get-get_or}
use Rattle.block_partition.proofs.Filled.{labels_more, labels_all}
use Rattle.block_partition.proofs.filling.add_blocks.Goals as goal

pub loop-count-preserved : goal.loop-count-preserved
loop-count-preserved c = record {
  labels = labels_more _ _ _ _ _ c.loop-count.invariant.labels c.add_block.ensures.label (slice_get-get_or _ _ 0 c.loop-count-test.true);
  reserved = search rules;
  nodes = search rules;
  nodes_reserved = search rules;
}

pub returns-clause-labels : goal.returns-clause-labels
returns-clause-labels c = labels_all _ _ _ c.loop-count.invariant.labels (let end = c.loop-count-test.false in omega (arith, end))
