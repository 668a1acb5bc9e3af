use Rattle.std.proofs.Common.{◌<◌, ℕ, [], get_or, refl, sym, ◌∙◌, subst, IsTrue}
use Rattle.std.specs.Prelude.{slice_get}
use Rattle.std.proofs.lemmas.List.{get_or_read}
use Rattle.graph_spec.specs.Members.{has}
use Rattle.walk_proof.proofs.PairLists.{no_pair, among_at}
use Rattle.walk_proof.proofs.LoopLaws.{spread_next, spread_marked}
use Rattle.walk_proof.proofs.Inside.{leads_within}
use Rattle.walk_proof.proofs.layering.spread.Goals as goal

pub bounds-sources-pair : goal.bounds-sources-pair
bounds-sources-pair g c =
    let p = get_or c.args.last.now c.loop-i.i no_pair in
    subst (λ n. p.state < n) (sym c.requires.count) (c.requires.last p.state p.place (among_at c.args.last.now c.loop-i.i p c.loop-i-test.true refl))

pub spread_from-requires-clause-sources : goal.spread_from-requires-clause-sources
spread_from-requires-clause-sources g c s h =
    let p = get_or c.args.last.now c.loop-i.i no_pair in
    let inside = c.requires.last p.state p.place (among_at c.args.last.now c.loop-i.i p c.loop-i-test.true refl) in
    let own = c.states.ensures ∙ get_or_read c.args.sources.now p.state _ (subst (λ n. p.state < n) (sym c.requires.count) inside) c.index-sources-pair.is [] in
    leads_within c.args.program.now s p.state (c.requires.sources.only s p.state (subst (λ l. IsTrue (has l s)) own h))

pub loop-i-preserved : goal.loop-i-preserved
loop-i-preserved g c =
    let at = λ (k : ℕ). slice_get c.args.program.now k in
    let size = g.G.Digraph.span c.args.g.now in
    let label_at = g.G.Digraph.label_at c.args.g.now in
    let edge = g.G.Digraph.edge c.args.g.now in
    let last = c.args.last.now in
    let i = c.loop-i.i in
    let p = get_or last i no_pair in
    let inside = c.requires.last p.state p.place (among_at last i p c.loop-i-test.true refl) in
    let own = c.states.ensures ∙ get_or_read c.args.sources.now p.state _ (subst (λ n. p.state < n) (sym c.requires.count) inside) c.index-sources-pair.is [] in
    let was = c.loop-i.invariant in
    let now = c.in_ok-spread_from.ensures in
    let rows2 = c.loop-i.rows.items in
    let rows3 = c.spread_from.new.rows.items in
    record {
      notes = spread_next at size label_at edge c.args.sources.now c.requires.sources last i p c.states.result.now c.args.rows.now.items rows2 rows3 c.args.layer.now c.loop-i.layer c.spread_from.new.layer
          c.loop-i-test.true refl own now.notes was.notes;
      marked = spread_marked at size label_at edge c.args.sources.now c.requires.sources last i p c.states.result.now c.args.rows.now.items rows2 rows3 c.args.layer.now c.loop-i.layer c.spread_from.new.layer
          c.loop-i-test.true refl own now.notes was.marked now.marked;
    }
