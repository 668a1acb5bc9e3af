use Rattle.std.proofs.Common.{◌≡◌, ◌-◌, ◌≤◌, length, Some}
use Rattle.branch_expr.proofs.Steps.{Filtered}
use Rattle.branch_expr.proofs.sets.keep_labelled.Given as goal

abbrev pub invariant-loop-from : goal.invariant-loop-from
invariant-loop-from g l = record {
  size : l.set.size ≡ l.initial.set.size;
  length : length l.noted ≡ 1024;
  within : l.from ≤ l.set.size;
  so_far : Filtered (λ m. g.G.Digraph.label_at l.g m ≡ Some l.label) l.initial.set.members l.set.members l.from;
}

abbrev pub decreases-loop-from : goal.decreases-loop-from
decreases-loop-from g l = l.set.size - l.from
