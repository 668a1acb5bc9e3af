use Rattle.std.proofs.Common.{◌≡◌, ◌↔◌, ◌+◌, ◌<◌, ◌≤◌, ℕ, length, take, IsTrue}
use Rattle.graph_spec.specs.Members.{has}
use Rattle.branch_expr.proofs.runs.note_members.Given as goal

abbrev pub invariant-loop-n : goal.invariant-loop-n
invariant-loop-n l = record {
  length : length l.noted ≡ length l.initial.noted;
  within : l.from + l.count ≤ l.n;
  so_far : (m : ℕ) → IsTrue (has (take l.count l.noted) m) ↔ ((l.from ≤ m) × (m < l.n) × IsTrue (has l.set.members m));
}
