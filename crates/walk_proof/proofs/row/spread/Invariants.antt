use Rattle.std.proofs.Common.{◌≡◌, ℕ, take}
use Rattle.graph_spec.specs.Members.{has}
use Rattle.walk_proof.proofs.row.spread.Given as goal

abbrev pub invariant-loop-i : goal.invariant-loop-i
invariant-loop-i l = record {
  size : l.marks.size ≡ l.width;
  members : (m : ℕ) → has l.marks.members m ≡ has (take l.i l.places) m;
}
