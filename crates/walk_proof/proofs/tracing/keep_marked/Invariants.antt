use Rattle.std.proofs.Common.{ℕ, take, IsTrue}
use Rattle.std.specs.Prelude.{◌↔◌}
use Rattle.graph_spec.specs.Members.{has}
use Rattle.walk_proof.specs.Marking.{IsMarked}
use Rattle.walk_proof.proofs.tracing.keep_marked.Given as goal

abbrev pub invariant-loop-i : goal.invariant-loop-i
invariant-loop-i l = (s : ℕ) → IsTrue (has l.states.items s) ↔ (IsTrue (has (take l.i l.listed) s) × IsMarked l.rows s l.place)
