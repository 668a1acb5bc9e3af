use Rattle.std.proofs.Common.{IsTrue, get_or, inl, inr, sym, subst, arith}
use Rattle.graph_spec.specs.Members.{has}
use Rattle.path_automaton.specs.MarkRows.{IsSet}
use Rattle.path_automaton.proofs.RowMarks.{gathers_as, gathers_then, has_there, take_cases}
use Rattle.path_automaton.proofs.frontier.mark_each.Goals as goal

pub mark-requires : goal.mark-requires
mark-requires c =
    let x = get_or c.args.places.now c.loop-n.n-index 0 in
    let there = c.requires x (has_there c.args.places.now c.loop-n.n-index c.loop-n-test.true) in
    let wide = c.loop-n.invariant.gathers.wide in
    omega (arith, there, wide)

pub loop-n-preserved : goal.loop-n-preserved
loop-n-preserved c =
    let l = c.loop-n in
    let places = c.args.places.now in
    let onto = c.in_ok-mark.ensures.gathers in
    record {
      gathers = gathers_then _ _ _ _ _ _ _ l.invariant.gathers
          (gathers_as _ _ _ _ _ _ (λ v h. subst (λ y. IsTrue (has places y)) (sym h) (has_there places l.n-index c.loop-n-test.true)) onto);
      marked = λ v h. elim (take_cases places l.n-index v c.loop-n-test.true h) [
        | inl old ↦ onto.grows v (l.invariant.marked v old)
        | inr here ↦ subst (λ y. IsSet c.mark.new.row y) (sym here) c.in_ok-mark.ensures.marked
      ];
    }
