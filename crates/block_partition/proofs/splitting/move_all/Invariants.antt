use Rattle.std.proofs.Common.{◌≡◌, ℕ, length, Some, take}
use Rattle.std.specs.Prelude.{if◌then◌else◌}
use Rattle.graph_spec.specs.Members.{has, at}
use Rattle.block_partition.proofs.splitting.move_all.Given as goal

abbrev pub invariant-loop-n : goal.invariant-loop-n
invariant-loop-n l = record {
  blocks : (n : ℕ) → at l.blocks.block_of n ≡ (if has (take l.n-index l.nodes) n then Some l.b else at l.initial.blocks.block_of n);
  count : length l.blocks.block_of ≡ length l.initial.blocks.block_of;
  labels : l.blocks.labels ≡ l.initial.blocks.labels;
  reserved : l.blocks.reserved ≡ l.initial.blocks.reserved;
}
