use Rattle.std.proofs.Common.{◌≡◌, ◌<◌, ◌||◌, ℕ, true}
use Rattle.std.specs.List.Sorted.{IsStrictlyIncreasing}
use Rattle.graph_spec.specs.Members.{has}
use Rattle.block_partition.specs.LabelledPartitions.{is_member}
use Rattle.index_eval.proofs.summary_answers.add_extent.Given as goal

abbrev pub invariant-loop-n : goal.invariant-loop-n
invariant-loop-n l = record {
  next : (goal.iterator-loop-n).can_next l.n-iterator;
  finite : (goal.iterator-loop-n).is_finite l.n-iterator;
  size : l.set.size ≡ l.fn.set.size;
  rising : IsStrictlyIncreasing l.set.members;
  below : (m : ℕ) → has l.n-iterator m ≡ true → m < l.set.size;
  members : (m : ℕ) → (has l.n-iterator m || has l.set.members m) ≡ (is_member l.summary.blocks l.b m || has l.fn.set.members m);
}
