use Rattle.std.proofs.Common.{◌≡◌, inl, inr, Some, sym, subst, arith}
use Rattle.std.specs.Prelude.{slice_get}
use Rattle.std.proofs.lemmas.Bool.{cases_eq}
use Rattle.std.proofs.lemmas.Option.{slice_get_within}
use Rattle.path_automaton.specs.declared.state.State.TheVariants.{End}
use Rattle.walk_proof.specs.Marking.{IsMarked}
use Rattle.walk_proof.proofs.MarkLaws.{notes_then}
use Rattle.walk_proof.proofs.layering.note_ends.Goals as goal

pub loop-state-preserved : goal.loop-state-preserved
loop-state-preserved c =
    let was = c.loop-state.invariant in
    let now = c.in_ok-note_end.ensures in
    let n = c.loop-state.state in
    let place = c.args.place in
    record {
      notes = notes_then (λ s x. (slice_get c.args.program.now s ≡ Some End) × (x ≡ place)) c.args.rows.now.items c.loop-state.rows.items c.note_end.new.rows.items
          c.args.layer.now c.loop-state.layer c.note_end.new.layer was.notes now.notes;
      marked = λ s b e. elim (cases_eq s n) [
        | inl same ↦ subst (λ x. IsMarked c.note_end.new.rows.items x place) (sym same) (now.marked (subst (λ x. slice_get c.args.program.now x ≡ Some End) same e))
        | inr other ↦ now.notes.grows s place (was.marked s (omega (arith, b, other)) e)
      ];
    }

pub returns-clause-marked : goal.returns-clause-marked
returns-clause-marked c s e =
    let b = slice_get_within c.args.program.now s End e in
    let len = c.len.ensures in
    let count = c.in-Ok.ensures in
    c.loop-state.invariant.marked s (omega (arith, b, len, count)) e
