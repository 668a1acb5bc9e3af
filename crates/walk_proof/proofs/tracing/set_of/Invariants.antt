use Rattle.std.proofs.Common.{◌≡◌, ℕ, take}
use Rattle.graph_spec.specs.Members.{has}
use Rattle.walk_proof.proofs.tracing.set_of.Given as goal

abbrev pub invariant-loop-i : goal.invariant-loop-i
invariant-loop-i l = record {
  size : l.set.size ≡ l.count;
  members : (s : ℕ) → has l.set.members s ≡ has (take l.i l.states) s;
}
