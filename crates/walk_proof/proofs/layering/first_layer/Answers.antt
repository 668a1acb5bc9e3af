use Rattle.std.proofs.Common.{◌≡◌, ℕ, inr, Some, sym, ap, subst}
use Rattle.std.specs.Prelude.{slice_get, is_some}
use Rattle.path_automaton.specs.declared.state.State.TheVariants.{End}
use Rattle.walk_proof.specs.Marking.{IsMarked, Notes}
use Rattle.walk_proof.specs.Layering.{IsLayeredBy}
use Rattle.walk_proof.proofs.LayerLaws.{is_layer, layered_first}
use Rattle.walk_proof.proofs.States.{forked_some}
use Rattle.walk_proof.proofs.layering.first_layer.Goals as goal

pub returns-clause-layered : goal.returns-clause-layered
returns-clause-layered g c =
    let at = λ (k : ℕ). slice_get c.args.program.now k in
    let size = g.G.Digraph.span c.args.g.now in
    let label_at = g.G.Digraph.label_at c.args.g.now in
    let edge = g.G.Digraph.edge c.args.g.now in
    let v = c.args.end in
    let rows = c.args.rows.now.items in
    let rows1 = c.note_ends.new.rows.items in
    let found = c.note_ends.new.layer in
    let P : ℕ → ℕ → Type 0 = λ s x. (at s ≡ Some End) × (x ≡ v) in
    let a = subst (λ l. Notes P rows rows1 l found) c.new-layer.ensures c.in_ok-note_ends.ensures.notes in
    let l = is_layer at size label_at edge v P rows rows1 c.close.new.rows.items found c.close.new.layer a
    (λ s x p. subst (λ y. IsMarked rows1 s y) (sym p.1) (c.in_ok-note_ends.ensures.marked s p.0)) c.in_ok-close.ensures.notes c.in_ok-close.ensures.closed in
    subst (λ ls. IsLayeredBy at size label_at edge v ls c.close.new.rows.items) (sym c.in_ok-layers.ensures.items)
    (layered_first at size label_at edge v rows c.close.new.rows.items c.close.new.layer c.requires.unmarked l (inr c.requires.end) (forked_some at) (λ s e. ap is_some e))
