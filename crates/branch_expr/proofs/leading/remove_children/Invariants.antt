use Rattle.std.proofs.Common.{◌≡◌, ◌↔◌, ℕ, take, IsTrue}
use Rattle.graph_spec.specs.Members.{has}
use Rattle.branch_expr.proofs.leading.remove_children.Given as goal

abbrev pub invariant-loop-i : goal.invariant-loop-i
invariant-loop-i g l = record {
  size : l.set.size ≡ l.initial.set.size;
  so_far : (c : ℕ) → IsTrue (has l.set.members c) ↔ (IsTrue (has l.initial.set.members c) × (IsTrue (has (take l.i l.children) c) → ⊥));
}
