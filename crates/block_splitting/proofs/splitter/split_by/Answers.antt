use Rattle.std.proofs.Common.{arith, vec_len}
use Rattle.block_splitting.proofs.Keyed.{ready, can_part}
use Rattle.block_splitting.proofs.SplitLaws.{parts_from, inhabited_of}
use Rattle.block_splitting.proofs.SplitterLaws.{flag_keys, split_by_of, touched_nodes, partition_of, labels_of}
use Rattle.block_splitting.proofs.splitter.split_by.Goals as goal

pub group_touched-requires-clause-ready : goal.group_touched-requires-clause-ready
group_touched-requires-clause-ready c =
    ready _ _ _ _ _ c.nodes-nodes.ensures c.requires.partition (touched_nodes _ c.size.ensures.graph _ _ _ _ c.in_ok-touched.ensures)
    (let a = c.in_ok-group.ensures.len in let b = c.size.ensures.size in omega (arith, a, b))

pub part-requires : goal.part-requires
part-requires c = record {
  can = can_part c.args.view.now _ c.args.blocks.now _ _ _ (vec_len c.in_ok-group.group) _ _ c.nodes-nodes.ensures c.deref.ensures.value (flag_keys _ _ _)
      (ready _ _ _ _ _ c.nodes-nodes.ensures c.requires.partition (touched_nodes _ c.size.ensures.graph _ _ _ _ c.in_ok-touched.ensures)
      (let a = c.in_ok-group.ensures.len in let b = c.size.ensures.size in omega (arith, a, b)))
      (let a = c.in_ok-group_touched.ensures.length in let ok = c.group_touched.new.group.ok in omega (arith, a, ok)) c.span-known.ensures.live c.in_ok-group_touched.ensures.grouped;
}

pub returns-clause-split : goal.returns-clause-split
returns-clause-split c =
    split_by_of _ c.args.blocks.now c.part.new.blocks _ _ _ _ _ _ _ c.in_ok-touched.ensures
    (parts_from _ c.args.blocks.now c.part.new.blocks _ _ _ _ _ _ c.nodes-nodes.ensures c.deref.ensures.value (flag_keys _ _ _) c.span-known.ensures.live c.in_ok-group_touched.ensures.grouped c.in_ok-part.ensures.parted)

pub returns-clause-partition : goal.returns-clause-partition
returns-clause-partition c =
    partition_of c.args.view.now _ c.args.blocks.now c.part.new.blocks _ _ _ _ c.requires.partition
    (parts_from _ c.args.blocks.now c.part.new.blocks _ _ _ _ _ _ c.nodes-nodes.ensures c.deref.ensures.value (flag_keys _ _ _) c.span-known.ensures.live c.in_ok-group_touched.ensures.grouped c.in_ok-part.ensures.parted)

pub returns-clause-labels : goal.returns-clause-labels
returns-clause-labels c =
    labels_of _ c.args.blocks.now c.part.new.blocks _ _ _ _
    (parts_from _ c.args.blocks.now c.part.new.blocks _ _ _ _ _ _ c.nodes-nodes.ensures c.deref.ensures.value (flag_keys _ _ _) c.span-known.ensures.live c.in_ok-group_touched.ensures.grouped c.in_ok-part.ensures.parted)

pub returns-clause-inhabited : goal.returns-clause-inhabited
returns-clause-inhabited c =
    inhabited_of _ c.args.blocks.now c.part.new.blocks _ _ _ _
    (parts_from _ c.args.blocks.now c.part.new.blocks _ _ _ _ _ _ c.nodes-nodes.ensures c.deref.ensures.value (flag_keys _ _ _) c.span-known.ensures.live c.in_ok-group_touched.ensures.grouped c.in_ok-part.ensures.parted)
