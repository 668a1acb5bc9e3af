use Rattle.std.proofs.Common.{ℕ, take, IsTrue}
use Rattle.std.specs.Prelude.{slice_get}
use Rattle.graph_spec.specs.Members.{has}
use Rattle.path_automaton.specs.NewMarks.{Enters}
use Rattle.walk_proof.specs.Marking.{IsMarked, Notes}
use Rattle.walk_proof.specs.Layering.{EntersFrom}
use Rattle.walk_proof.proofs.layering.close_one.Given as goal

abbrev pub invariant-loop-i : goal.invariant-loop-i
invariant-loop-i l = record {
  notes : Notes (EntersFrom (λ k. slice_get l.program k) l.sources l.state l.place) l.initial.rows.items l.rows.items l.initial.layer l.layer;
  marked : (s : ℕ) → IsTrue (has (take l.i l.sources) s) → Enters (slice_get l.program s) l.state → IsMarked l.rows.items s l.place;
}
