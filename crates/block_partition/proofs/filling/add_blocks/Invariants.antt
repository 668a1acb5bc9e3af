use Rattle.std.proofs.Common.{◌≡◌, ◌+◌, ℕ, None, nat_lt, if◌then◌else◌, slice_get}
use Rattle.graph_spec.specs.Members.{at}
use Rattle.block_partition.proofs.filling.add_blocks.Given as goal

abbrev pub invariant-loop-count : goal.invariant-loop-count
invariant-loop-count l = record {
  labels : (b : ℕ) → at l.blocks.labels b ≡ (if nat_lt b l.count then slice_get l.labels b else None);
  reserved : l.blocks.reserved.blocks + l.count ≡ l.fn.blocks.reserved.blocks;
  nodes : l.blocks.block_of ≡ l.fn.blocks.block_of;
  nodes_reserved : l.blocks.reserved.nodes ≡ l.fn.blocks.reserved.nodes;
}
