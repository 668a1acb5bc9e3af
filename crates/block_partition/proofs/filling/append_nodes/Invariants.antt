use Rattle.std.proofs.Common.{◌≡◌, ◌+◌, length}
use Rattle.block_partition.specs.FilledTables.{SameBelow}
use Rattle.block_partition.proofs.filling.append_nodes.Given as goal

abbrev pub invariant-loop-n : goal.invariant-loop-n
invariant-loop-n l = record {
  blocks : SameBelow l.n l.blocks.block_of l.block;
  count : length l.blocks.block_of ≡ l.n;
  labels : l.blocks.labels ≡ l.fn.blocks.labels;
  reserved : l.blocks.reserved.nodes + l.n ≡ l.fn.blocks.reserved.nodes;
}
