use Rattle.std.proofs.Common.{IsTrue, inl, inr, sym, subst}
use Rattle.path_automaton.specs.ProductSteps.{label_in}
use Rattle.graph_spec.specs.Members.{has}
use Rattle.path_automaton.specs.MarkRows.{IsSet}
use Rattle.path_automaton.specs.NewMarks.{Passes}
use Rattle.path_automaton.proofs.RowMarks.{gathers_as, gathers_then, has_there, take_cases}
use Rattle.path_automaton.proofs.follow.mark_among.Goals as goal

pub loop-node-preserved : goal.loop-node-preserved
loop-node-preserved g c =
    let l = c.loop-node in
    let label_at = label_in (g.S.Scope.keeps c.args.scope.now) (g.G.Digraph.label_at c.args.g.now) in
    let nodes = c.args.nodes.now in
    let onto = c.in_ok-mark_if.ensures.gathers in
    record {
      gathers = gathers_then _ _ _ _ _ _ _ l.invariant.gathers
          (gathers_as _ _ _ _ _ _ (λ v h. (
            subst (λ y. IsTrue (has nodes y)) (sym h.1) (has_there nodes l.node-index c.loop-node-test.true),
            subst (λ y. Passes label_at c.args.test y) (sym h.1) (c.passes.ensures.0 h.0),
          )) onto);
      marked = λ v h p. elim (take_cases nodes l.node-index v c.loop-node-test.true h) [
        | inl old ↦ onto.grows v (l.invariant.marked v old p)
        | inr here ↦ subst (λ y. IsSet c.mark_if.new.row y) (sym here) (c.in_ok-mark_if.ensures.marked (c.passes.ensures.1 (subst (λ y. Passes label_at c.args.test y) here p)))
      ];
    }
