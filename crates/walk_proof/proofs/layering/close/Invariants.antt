use Rattle.std.proofs.Common.{◌-◌, ◌^◌, ℕ, take}
use Rattle.std.specs.Prelude.{slice_get}
use Rattle.path_automaton.specs.NewMarks.{Enters}
use Rattle.walk_proof.specs.Marking.{IsMarked, Among, Notes}
use Rattle.walk_proof.specs.Layering.{ForkedInto}
use Rattle.walk_proof.proofs.layering.close.Given as goal

abbrev pub invariant-pairs : goal.invariant-pairs
invariant-pairs l = record {
  notes : Notes (ForkedInto (λ k. slice_get l.program k) l.initial.layer) l.initial.rows.items l.rows.items l.initial.layer l.layer;
  closed : (k s c : ℕ) → Among (take l.i l.layer) k c → Enters (slice_get l.program s) k → IsMarked l.rows.items s c;
}

abbrev pub decreases-pairs : goal.decreases-pairs
decreases-pairs l = 2 ^ 64 - l.i
