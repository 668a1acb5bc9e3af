use Rattle.std.proofs.Common.{◌≡◌, ◌-◌, ◌≤◌, ℕ}
use Rattle.std.specs.Prelude.{length}
use Rattle.std.specs.List.Sorted.{IsStrictlyIncreasing}
use Rattle.graph_spec.specs.Members.{has, at}
use Rattle.index_eval.proofs.BlockSets.{is_in_below}
use Rattle.index_eval.proofs.summary_answers.extents.Given as goal

abbrev pub invariant-loop-b : goal.invariant-loop-b
invariant-loop-b l = record {
  within : l.from ≤ l.blocks.size;
  size : l.set.size ≡ length l.summary.blocks.block_of;
  rising : IsStrictlyIncreasing l.set.members;
  members : (n : ℕ) → has l.set.members n ≡ is_in_below l.from l.blocks.members (at l.summary.blocks.block_of n);
}

abbrev pub decreases-loop-b : goal.decreases-loop-b
decreases-loop-b l = l.blocks.size - l.from
