use Rattle.std.proofs.Common.{◌≡◌, ◌-◌, ◌≤◌}
use Rattle.branch_expr.proofs.Steps.{United}
use Rattle.branch_expr.proofs.sets.unite.Given as goal

abbrev pub invariant-loop-n : goal.invariant-loop-n
invariant-loop-n l = record {
  within : l.from ≤ l.other.size;
  size : l.set.size ≡ l.initial.set.size;
  so_far : United l.initial.set.members l.set.members l.other.members l.from;
}

abbrev pub decreases-loop-n : goal.decreases-loop-n
decreases-loop-n l = l.other.size - l.from
