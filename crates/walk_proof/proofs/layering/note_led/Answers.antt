use Rattle.std.proofs.Common.{◌≡◌, ◌∙◌, ℕ, inl, inr, get_or, sym, subst, arith, IsTrue}
use Rattle.path_automaton.specs.ProductSteps.{leads}
use Rattle.state_sets.proofs.Lists.{has_at, take_cases}
use Rattle.walk_proof.specs.Marking.{IsMarked}
use Rattle.walk_proof.proofs.MarkLaws.{notes_as, notes_then}
use Rattle.walk_proof.proofs.Inside.{leads_by_edge}
use Rattle.walk_proof.proofs.layering.note_led.Goals as goal

pub note-requires-in-loop-i-clause-place : goal.note-requires-in-loop-i-clause-place
note-requires-in-loop-i-clause-place g c =
    let parents = c.parents-parents.result.now in
    let p = get_or parents c.loop-i.i 0 in
    let edge = sym (c.parents-parents.ensures.members p) ∙ has_at parents c.loop-i.i c.loop-i-test.true in
    let below = g.met.G.Digraph.below c.args.g.now p (g.met.G.Digraph.ends c.args.g.now p c.args.node edge).0 in
    let size = c.loop-i.invariant.notes.sizes c.args.state ∙ c.requires.wide in
    omega (arith, below, size)

pub loop-i-preserved : goal.loop-i-preserved
loop-i-preserved g c =
    let size = g.G.Digraph.span c.args.g.now in
    let label_at = g.G.Digraph.label_at c.args.g.now in
    let edges = g.G.Digraph.edge c.args.g.now in
    let parents = c.parents-parents.result.now in
    let i = c.loop-i.i in
    let p = get_or parents i 0 in
    let state = c.args.state in
    let edge = sym (c.parents-parents.ensures.members p) ∙ has_at parents i c.loop-i-test.true in
    let below = g.met.G.Digraph.below c.args.g.now p (g.met.G.Digraph.ends c.args.g.now p c.args.node edge).0 in
    let led = leads_by_edge size label_at edges p c.args.node below edge in
    let was = c.loop-i.invariant in
    let now = c.in_ok-note-2.ensures in
    let P : ℕ → ℕ → Type 0 = λ s x. (s ≡ state) × IsTrue (leads size label_at edges x c.args.node) in
    let rows2 = c.loop-i.rows.items in
    let rows3 = c.note-in-loop-i.new.rows.items in
    record {
      notes = notes_then P c.args.rows.now.items rows2 rows3 c.args.layer.now c.loop-i.layer c.note-in-loop-i.new.layer was.notes
          (notes_as (λ s x. (s ≡ state) × (x ≡ p)) P rows2 rows3 c.loop-i.layer c.note-in-loop-i.new.layer
          (λ s x e. (e.0, subst (λ y. IsTrue (leads size label_at edges y c.args.node)) (sym e.1) led)) now.notes);
      marked = λ x h. elim h [
        | inl first ↦ now.notes.grows state x (was.marked x (inl first))
        | inr more ↦ (elim (take_cases parents i c.loop-i-test.true x more) [
          | inl before ↦ now.notes.grows state x (was.marked x (inr before))
          | inr same ↦ subst (λ y. IsMarked rows3 state y) (sym same) now.marked
        ])
      ];
    }
