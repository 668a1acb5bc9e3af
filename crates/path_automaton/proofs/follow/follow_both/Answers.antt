use Rattle.std.proofs.Common.{get_or, take_all, inl, inr, refl, subst, arith}
use Rattle.path_automaton.specs.ProductSteps.{label_in, edge_in}
use Rattle.path_automaton.specs.NewMarks.{Gains, Next, NextOf}
use Rattle.path_automaton.proofs.RowMarks.{gathers_as, gathers_then, gains_then, has_there, take_cases, take_there}
use Rattle.path_automaton.proofs.follow.follow_both.Goals as goal

pub loop-p-preserved : goal.loop-p-preserved
loop-p-preserved g c =
    let l = c.loop-p in
    let places = c.args.places.now in
    let span = g.G.Digraph.span c.args.g.now in
    let label_at = label_in (g.S.Scope.keeps c.args.scope.now) (g.G.Digraph.label_at c.args.g.now) in
    let edge = edge_in (g.S.Scope.keeps c.args.scope.now) (g.G.Digraph.edge c.args.g.now) in
    let x = get_or places l.p-index 0 in
    let onto = c.in_ok-mark_and_note_next.ensures.gathers in
    record {
      gathers = gathers_then _ _ _ _ _ _ _ l.invariant.gathers
          (gathers_as _ _ _ _ _ _ (λ v h. (x, has_there places l.p-index c.loop-p-test.true, h)) onto);
      marked = λ v y h p. elim (take_cases places l.p-index v c.loop-p-test.true h) [
        | inl old ↦ onto.grows y (l.invariant.marked v y old p)
        | inr here ↦ c.in_ok-mark_and_note_next.ensures.marked y (subst (λ n. Next span label_at edge c.args.tests.0 n y) here p)
      ];
      noted = gains_then _ _ _ _ _ _
          (λ y r. elim (take_cases places l.p-index r.0 c.loop-p-test.true r.1) [
            | inl old ↦ inl (r.0, old, r.2)
            | inr here ↦ inr (subst (λ n. Next span label_at edge c.args.tests.1 n y) here r.2)
          ])
          (λ y p. (p.0, take_there places l.p-index p.0 c.loop-p-test.true (inl p.1), p.2))
          (λ y q. (x, take_there places l.p-index x c.loop-p-test.true (inr refl), q))
          l.invariant.noted c.in_ok-mark_and_note_next.ensures.noted;
    }

pub returns-clause-noted : goal.returns-clause-noted
returns-clause-noted g c =
    let l = c.loop-p in
    let span = g.G.Digraph.span c.args.g.now in
    let label_at = label_in (g.S.Scope.keeps c.args.scope.now) (g.G.Digraph.label_at c.args.g.now) in
    let edge = edge_in (g.S.Scope.keeps c.args.scope.now) (g.G.Digraph.edge c.args.g.now) in
    subst (λ ps. Gains c.args.noted.now.items l.noted.items (NextOf span label_at edge c.args.tests.1 ps))
    (take_all l.p-index c.args.places.now (let e = l.auto.p-index-end in let f = c.loop-p-test.false in omega (arith, e, f))) l.invariant.noted
