use Rattle.std.proofs.Common.{◌≡◌, ◌-◌, ◌≤◌, count_by}
use Rattle.index_eval.proofs.BlockSets.{is_in_below}
use Rattle.index_eval.proofs.summary_answers.count_members.Given as goal

abbrev pub invariant-loop-b : goal.invariant-loop-b
invariant-loop-b l = record {
  within : l.from ≤ l.blocks.size;
  counted : l.count ≡ count_by (is_in_below l.from l.blocks.members) l.summary.blocks.block_of;
}

abbrev pub decreases-loop-b : goal.decreases-loop-b
decreases-loop-b l = l.blocks.size - l.from
