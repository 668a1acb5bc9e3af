use Rattle.std.proofs.Common.{◌≡◌, ℕ, ◌<◌, Some}
use Rattle.std.specs.Prelude.{slice_get}
use Rattle.path_automaton.specs.declared.state.State.TheVariants.{End}
use Rattle.walk_proof.specs.Marking.{IsMarked, Notes}
use Rattle.walk_proof.proofs.layering.note_ends.Given as goal

abbrev pub invariant-loop-state : goal.invariant-loop-state
invariant-loop-state l = record {
  notes : Notes (λ s c. (slice_get l.program s ≡ Some End) × (c ≡ l.place)) l.initial.rows.items l.rows.items l.initial.layer l.layer;
  marked : (s : ℕ) → s < l.state → slice_get l.program s ≡ Some End → IsMarked l.rows.items s l.place;
}
