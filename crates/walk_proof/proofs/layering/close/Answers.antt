use Rattle.std.proofs.Common.{◌<◌, ◌≤◌, refl, ℕ, [], get_or, length, sym, ap, ◌∙◌, subst, IsTrue}
use Rattle.std.specs.Prelude.{slice_get}
use Rattle.std.proofs.lemmas.List.{get_or_read}
use Rattle.graph_spec.specs.Members.{has}
use Rattle.walk_proof.specs.Marking.{Among}
use Rattle.walk_proof.proofs.PairLists.{no_pair, among_at, take_all}
use Rattle.walk_proof.proofs.LoopLaws.{close_next, close_closed}
use Rattle.walk_proof.proofs.Inside.{stay_inside, leads_within}
use Rattle.walk_proof.proofs.layering.close.Goals as goal

pub bounds-sources-pair : goal.bounds-sources-pair
bounds-sources-pair c =
    let i = c.pairs.i in
    let xs = c.pairs-in-pairs-2.result.now in
    let p = get_or xs i no_pair in
    let within = subst (λ l. i < length l) (c.pairs-in-pairs.ensures ∙ sym c.pairs-in-pairs-2.ensures) c.pairs-test.true in
    let there = subst (λ l. Among l p.state p.place) c.pairs-in-pairs-2.ensures (among_at xs i p within refl) in
    subst (λ n. p.state < n) (sym c.requires.count)
    (stay_inside c.args.program.now c.args.width c.args.layer.now c.pairs.layer c.args.rows.now.items c.pairs.rows.items c.requires.layer c.pairs.invariant.notes p.state p.place there).0

pub close_one-requires-clause-place : goal.close_one-requires-clause-place
close_one-requires-clause-place c =
    let i = c.pairs.i in
    let xs = c.pairs-in-pairs-2.result.now in
    let p = get_or xs i no_pair in
    let within = subst (λ l. i < length l) (c.pairs-in-pairs.ensures ∙ sym c.pairs-in-pairs-2.ensures) c.pairs-test.true in
    let there = subst (λ l. Among l p.state p.place) c.pairs-in-pairs-2.ensures (among_at xs i p within refl) in
    (stay_inside c.args.program.now c.args.width c.args.layer.now c.pairs.layer c.args.rows.now.items c.pairs.rows.items c.requires.layer c.pairs.invariant.notes p.state p.place there).1

pub close_one-requires-clause-sources : goal.close_one-requires-clause-sources
close_one-requires-clause-sources c s h =
    let i = c.pairs.i in
    let xs = c.pairs-in-pairs-2.result.now in
    let p = get_or xs i no_pair in
    let within = subst (λ l. i < length l) (c.pairs-in-pairs.ensures ∙ sym c.pairs-in-pairs-2.ensures) c.pairs-test.true in
    let there = subst (λ l. Among l p.state p.place) c.pairs-in-pairs-2.ensures (among_at xs i p within refl) in
    let inside = stay_inside c.args.program.now c.args.width c.args.layer.now c.pairs.layer c.args.rows.now.items c.pairs.rows.items c.requires.layer c.pairs.invariant.notes p.state p.place there in
    let own = c.states.ensures ∙ get_or_read c.args.sources.now p.state _ (subst (λ n. p.state < n) (sym c.requires.count) inside.0) c.index-sources-pair.is [] in
    leads_within c.args.program.now s p.state (c.requires.sources.only s p.state (subst (λ l. IsTrue (has l s)) own h))

pub pairs-preserved : goal.pairs-preserved
pairs-preserved c =
    let at = λ (k : ℕ). slice_get c.args.program.now k in
    let i = c.pairs.i in
    let xs = c.pairs-in-pairs-2.result.now in
    let p = get_or xs i no_pair in
    let layer = c.pairs.layer in
    let there = subst (λ l. Among l p.state p.place) c.pairs-in-pairs-2.ensures (among_at xs i p (subst (λ l. i < length l) (c.pairs-in-pairs.ensures ∙ sym c.pairs-in-pairs-2.ensures) c.pairs-test.true) refl) in
    let inside = stay_inside c.args.program.now c.args.width c.args.layer.now layer c.args.rows.now.items c.pairs.rows.items c.requires.layer c.pairs.invariant.notes p.state p.place there in
    let own = c.states.ensures ∙ get_or_read c.args.sources.now p.state _ (subst (λ n. p.state < n) (sym c.requires.count) inside.0) c.index-sources-pair.is [] in
    let within = subst (λ l. i < length l) c.pairs-in-pairs.ensures c.pairs-test.true in
    let is = ap (λ l. get_or l i no_pair) c.pairs-in-pairs-2.ensures in
    let now = c.in_ok-close_one.ensures in
    record {
      notes = close_next at c.args.sources.now c.requires.sources c.args.layer.now layer c.close_one.new.layer c.args.rows.now.items c.pairs.rows.items c.close_one.new.rows.items i p c.states.result.now
          within is own c.pairs.invariant.notes now.notes;
      closed = close_closed at c.args.sources.now c.requires.sources c.args.layer.now layer c.close_one.new.layer c.args.rows.now.items c.pairs.rows.items c.close_one.new.rows.items i p c.states.result.now
          within is own c.pairs.invariant.notes now.notes c.pairs.invariant.closed now.marked;
    }

pub returns-clause-closed : goal.returns-clause-closed
returns-clause-closed c k s x a e =
    let past = subst (λ l. length l ≤ c.pairs.i) c.pairs-in-pairs.ensures c.pairs-test.false in
    c.pairs.invariant.closed k s x (subst (λ l. Among l k x) (sym (take_all c.pairs.layer c.pairs.i past)) a) e
