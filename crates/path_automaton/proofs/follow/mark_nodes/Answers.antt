use Rattle.std.proofs.Common.{inl, inr, sym, subst, arith}
use Rattle.std.proofs.lemmas.Bool.{cases_eq, cases_lt}
use Rattle.path_automaton.specs.ProductSteps.{label_in}
use Rattle.path_automaton.specs.MarkRows.{IsSet}
use Rattle.path_automaton.specs.NewMarks.{Passes}
use Rattle.path_automaton.proofs.RowMarks.{gathers_as, gathers_then}
use Rattle.path_automaton.proofs.follow.mark_nodes.Goals as goal

pub nodes-preserved : goal.nodes-preserved
nodes-preserved g c =
    let l = c.nodes in
    let label_at = label_in (g.S.Scope.keeps c.args.scope.now) (g.G.Digraph.label_at c.args.g.now) in
    let here = l.invariant.passes c.nodes-test.true in
    let onto = c.in_ok-mark.ensures in
    let next = c.next_passing-place-in-nodes.ensures in
    record {
      gathers = gathers_then _ _ _ _ _ _ _ l.invariant.gathers (gathers_as _ _ _ _ _ _ (λ v h. subst (λ y. Passes label_at c.args.test y) (sym h) here) onto.gathers);
      marked = λ v below p. elim (cases_lt v l.place) [
        | inl old ↦ onto.gathers.grows v (l.invariant.marked v old p)
        | inr past ↦ elim (cases_eq v l.place) [
          | inl same ↦ subst (λ y. IsSet c.mark.new.row y) (sym same) onto.marked
          | inr other ↦ absurd (next.passed v (omega arith) below p)
        ]
      ];
      passes = next.passes;
    }
