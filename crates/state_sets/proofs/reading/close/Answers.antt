use Rattle.std.proofs.Common.{◌≡◌, ℕ, ◌<◌, ◌≤◌, length, get_or, sym, ap, ◌∙◌, subst, IsTrue}
use Rattle.graph_spec.specs.Members.{has}
use Rattle.path_automaton.specs.Programs.{state_at}
use Rattle.path_automaton.specs.NewMarks.{Enters}
use Rattle.state_sets.specs.StateSets.{Enlarges}
use Rattle.state_sets.proofs.Lists.{has_at}
use Rattle.state_sets.proofs.Enlarged.{closing_next, closing_ends}
use Rattle.state_sets.proofs.reading.close.Goals as goal

pub enter_fork-requires-clause-state : goal.enter_fork-requires-clause-state
enter_fork-requires-clause-state c =
    let xs = c.list-in-states.result.now in
    let same : c.list.result.now ≡ xs = c.list.ensures.list ∙ sym c.list-in-states.ensures.list in
    let within : c.states.i < length xs = subst (λ l. c.states.i < length l) same c.states-test.true in
    subst (λ n. get_or xs c.states.i 0 < n) c.states.invariant.size
    (c.list-in-states.ensures.below (get_or xs c.states.i 0) (subst (λ l. IsTrue (has l (get_or xs c.states.i 0))) c.list-in-states.ensures.list (has_at xs c.states.i within)))

pub states-preserved : goal.states-preserved
states-preserved c =
    let at = state_at c.args.program.now in
    let i = c.states.i in
    let here = c.list-in-states.ensures.list in
    let within : i < length c.states.states.1 = subst (λ l. i < length l) c.list.ensures.list c.states-test.true in
    let s = get_or c.list-in-states.result.now i 0 in
    let same : s ≡ get_or c.states.states.1 i 0 = ap (λ l. get_or l i 0) here in
    record {
      size = c.enter_fork.ensures.size ∙ c.states.invariant.size;
      closing = closing_next at c.args.states.now.1 c.states.states.1 c.enter_fork.new.states.1 i within c.states.invariant.closing
          (subst (λ x. Enlarges (Enters (at x)) c.states.states.1 c.enter_fork.new.states.1) same c.in_ok-enter_fork.ensures.enlarges)
          (subst (λ x. (k : ℕ) → Enters (at x) k → IsTrue (has c.enter_fork.new.states.1 k)) same c.in_ok-enter_fork.ensures.entered);
    }

pub returns-clause-closed : goal.returns-clause-closed
returns-clause-closed c =
    let past = subst (λ l. length l ≤ c.states.i) c.list.ensures.list c.states-test.false in
    closing_ends (state_at c.args.program.now) c.args.states.now.1 c.states.states.1 c.states.i past c.states.invariant.closing
