use Rattle.std.proofs.Common.{get_or, inl, inr, subst}
use Rattle.path_automaton.specs.ProductSteps.{label_in, edge_in}
use Rattle.path_automaton.specs.NewMarks.{Next}
use Rattle.path_automaton.proofs.RowMarks.{gathers_as, gathers_then, has_there, take_cases}
use Rattle.path_automaton.proofs.follow.follow.Goals as goal

pub mark_next-requires-clause-place : goal.mark_next-requires-clause-place
mark_next-requires-clause-place g c = c.requires.places (get_or c.args.places.now c.loop-p.p-index 0) (has_there c.args.places.now c.loop-p.p-index c.loop-p-test.true)

pub loop-p-preserved : goal.loop-p-preserved
loop-p-preserved g c =
    let l = c.loop-p in
    let places = c.args.places.now in
    let span = g.G.Digraph.span c.args.g.now in
    let label_at = label_in (g.S.Scope.keeps c.args.scope.now) (g.G.Digraph.label_at c.args.g.now) in
    let edge = edge_in (g.S.Scope.keeps c.args.scope.now) (g.G.Digraph.edge c.args.g.now) in
    let x = get_or places l.p-index 0 in
    let onto = c.in_ok-mark_next.ensures.gathers in
    record {
      gathers = gathers_then _ _ _ _ _ _ _ l.invariant.gathers
          (gathers_as _ _ _ _ _ _ (λ v h. (x, has_there places l.p-index c.loop-p-test.true, h)) onto);
      marked = λ v y h p. elim (take_cases places l.p-index v c.loop-p-test.true h) [
        | inl old ↦ onto.grows y (l.invariant.marked v y old p)
        | inr here ↦ c.in_ok-mark_next.ensures.marked y (subst (λ n. Next span label_at edge c.args.test n y) here p)
      ];
    }
