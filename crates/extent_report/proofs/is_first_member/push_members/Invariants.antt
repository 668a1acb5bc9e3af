use Rattle.std.proofs.Common.{◌≡◌, ◌||◌, ℕ}
use Rattle.graph_spec.specs.Members.{has}
use Rattle.block_partition.specs.LabelledPartitions.{is_member}
use Rattle.extent_report.proofs.is_first_member.push_members.Given as goal

abbrev pub invariant-loop-n : goal.invariant-loop-n
invariant-loop-n l = record {
  next : (goal.iterator-loop-n).can_next l.n-iterator;
  finite : (goal.iterator-loop-n).is_finite l.n-iterator;
  members : (m : ℕ) → (has l.n-iterator m || has l.list.items m) ≡ (is_member l.summary.blocks l.b m || has l.fn.list.items m);
}
