use Rattle.std.proofs.Common.{◌≡◌, ◌↔◌, ◌⊎◌, ℕ, take, IsTrue}
use Rattle.graph_spec.specs.Members.{has}
use Rattle.branch_expr.proofs.sets.insert_all.Given as goal

abbrev pub invariant-loop-i : goal.invariant-loop-i
invariant-loop-i l = record {
  size : l.set.size ≡ l.initial.set.size;
  so_far : (m : ℕ) → IsTrue (has l.set.members m) ↔ (IsTrue (has l.initial.set.members m) ⊎ IsTrue (has (take l.i l.list) m));
}
