use Rattle.std.proofs.Common.{◌≡◌, ℕ, drop, IsTrue}
use Rattle.graph_spec.specs.Members.{has}
use Rattle.state_sets.proofs.states.remove_all.Given as goal

abbrev pub invariant-loop-i : goal.invariant-loop-i
invariant-loop-i l = record {
  size : l.set.size ≡ l.initial.set.size;
  left : (s : ℕ) → IsTrue (has l.set.members s) → IsTrue (has (drop l.i l.list) s);
}
