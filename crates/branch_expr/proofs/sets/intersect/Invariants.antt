use Rattle.std.proofs.Common.{◌≡◌, ◌-◌, ◌≤◌, IsTrue}
use Rattle.graph_spec.specs.Members.{has}
use Rattle.branch_expr.proofs.Steps.{Filtered}
use Rattle.branch_expr.proofs.sets.intersect.Given as goal

abbrev pub invariant-loop-n : goal.invariant-loop-n
invariant-loop-n l = record {
  within : l.from ≤ l.set.size;
  size : l.set.size ≡ l.initial.set.size;
  so_far : Filtered (λ m. IsTrue (has l.other.members m)) l.initial.set.members l.set.members l.from;
}

abbrev pub decreases-loop-n : goal.decreases-loop-n
decreases-loop-n l = l.set.size - l.from
