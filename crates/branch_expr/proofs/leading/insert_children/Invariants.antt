use Rattle.std.proofs.Common.{◌≡◌, ℕ, take}
use Rattle.std.specs.Prelude.{◌||◌}
use Rattle.graph_spec.specs.Members.{has}
use Rattle.branch_expr.proofs.leading.insert_children.Given as goal

abbrev pub invariant-loop-i : goal.invariant-loop-i
invariant-loop-i g l = record {
  size : l.set.size ≡ l.initial.set.size;
  so_far : (c : ℕ) → has l.set.members c ≡ (has l.initial.set.members c || has (take l.i l.children) c);
}
