use Rattle.std.proofs.Common.{◌≡◌, ℕ, [], inl, inr, List, false, true≢false, sym, ap, ◌∙◌, subst, get_or, get_or-set_same, IsTrue}
use Rattle.std.proofs.lemmas.List.{get_or_read}
use Rattle.graph_spec.specs.Members.{has}
use Rattle.path_automaton.specs.ProductSteps.{label_in, edge_in}
use Rattle.path_automaton.specs.NewMarks.{NextOf, Gains}
use Rattle.path_automaton.proofs.PairMarks.{spreads_found, spreads_as, spreads_then}
use Rattle.path_automaton.proofs.searching.advance_both.Goals as goal

-- what was put into an empty list is of the kind
of_kind : (P : ℕ → Type 0) (xs ys : List ℕ) → xs ≡ [] → Gains xs ys P → (v : ℕ) → IsTrue (has ys v) → P v
of_kind P xs ys none a v h = elim ((a v).0 h) [ inl old ↦ absurd (true≢false (sym (subst (λ l. IsTrue (has l v)) none old))) | inr p ↦ p ]

pub returns-clause-spreads : goal.returns-clause-spreads
returns-clause-spreads g c =
    let span = g.G.Digraph.span c.args.g.now in
    let label_at = label_in (g.S.Scope.keeps c.args.scope.now) (g.G.Digraph.label_at c.args.g.now) in
    let edge = edge_in (g.S.Scope.keeps c.args.scope.now) (g.G.Digraph.edge c.args.g.now) in
    let P = NextOf span label_at edge c.args.tests.0 c.args.places.now in
    let Q = NextOf span label_at edge c.args.tests.1 c.args.places.now in
    let first = spreads_found P c.args.frontier.now.rows.items c.args.frontier.now.worklist c.push.new.self c.args.states.0
    c.index_mut.result.now c.follow_both.new.row c.clear.new.self.items c.follow_both.new.found.items c.deref.result.now c.requires.first
    (get_or_read c.args.frontier.now.rows.items c.args.states.0 _ c.requires.first c.index_mut.ensures.value []) c.clear.ensures.items c.deref.ensures.value
    c.in_ok-follow_both.ensures.gathers c.in_ok-push.ensures in
    let second = c.in_ok-mark_all.ensures.spreads in
    spreads_then _ _ _ _ _ _ _ (spreads_as _ _ _ _ _ _ (λ s v h. inl h) first)
    (spreads_as _ _ _ _ _ _ (λ s v h. inr (h.0, of_kind Q _ _ c.new-noted.ensures.items c.in_ok-follow_both.ensures.noted v (subst (λ l. IsTrue (has l v)) c.deref-2.ensures.value h.1))) second)

pub returns-clause-first : goal.returns-clause-first
returns-clause-first g c y h =
    let s = c.args.states.0 in
    let flags = c.follow_both.new.row in
    let here = c.in_ok-follow_both.ensures.marked h.0 y h.1 h.2 in
    c.in_ok-mark_all.ensures.spreads.grows s y
    (ap (λ r. get_or r y false) (get_or-set_same c.args.frontier.now.rows.items s flags [] c.requires.first) ∙ here)
