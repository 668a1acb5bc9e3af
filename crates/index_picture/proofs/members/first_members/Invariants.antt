use Rattle.std.proofs.Common.{◌≡◌, ◌≤◌, ◌-◌, length}
use Rattle.block_partition.specs.LabelledPartitions.{is_member}
use Rattle.index_picture.specs.DrawnBlocks.{firsts_below}
use Rattle.index_picture.proofs.members.first_members.Given as goal

abbrev pub invariant-loop-n : goal.invariant-loop-n
invariant-loop-n l = record {
  members : l.members.items ≡ firsts_below l.most (is_member l.summary.blocks l.b) l.n;
  within : l.n ≤ length l.summary.blocks.block_of;
}

abbrev pub decreases-loop-n : goal.decreases-loop-n
decreases-loop-n l = length l.summary.blocks.block_of - l.n
