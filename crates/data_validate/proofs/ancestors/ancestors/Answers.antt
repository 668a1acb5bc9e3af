use Rattle.std.proofs.Common.{◌≡◌, ◌+◌, ◌<◌, ◌≤◌, ℕ, length, subst, sym, ap, ◌∙◌, inl, inr, arith, IfSome}
use Rattle.data_validate.specs.Ancestors.{IsSpread}
use Rattle.data_validate.proofs.BackwardRounds.{IsMet, met_next, met_closed, met_enough}
use Rattle.data_validate.proofs.ancestors.ancestors.Goals as goal

pub returns-clause-leading : goal.returns-clause-leading
returns-clause-leading g c =
    let label_at = g.G.Digraph.label_at c.args.g.now in
    let edge = g.G.Digraph.edge c.args.g.now in
    let set = c.args.set.now.members in
    let met = c.rounds.met.members in
    elim (c.goes_on.ensures.end c.rounds-test.false) [
      | inl none ↦ met_closed label_at edge set c.rounds.edges met c.args.most
          (subst (λ k. IsMet label_at edge set c.rounds.edges k met) (sym c.deref.ensures.value ∙ none) c.rounds.invariant.met)
      | inr few ↦ met_enough label_at edge set c.rounds.edges c.rounds.current.items met c.args.most few c.rounds.invariant.met
    ]

pub rounds-preserved : goal.rounds-preserved
rounds-preserved g c =
    let label_at = g.G.Digraph.label_at c.args.g.now in
    let edge = g.G.Digraph.edge c.args.g.now in
    let set = c.args.set.now.members in
    let met = c.rounds.met.members in
    let met2 = c.meet_parents.new.met.members in
    let found2 = c.meet_parents.new.found.items in
    let nodes = c.deref-in-rounds.result.now in
    let here : nodes ≡ c.rounds.current.items = c.deref-in-rounds.ensures.value in
    let left : c.in-Some.rest + length nodes ≤ c.rounds.left =
    subst (λ o. IfSome o (λ (left : ℕ). left + length nodes ≤ c.rounds.left)) c.in-Some.is c.in_ok-rest.ensures.left in
    let some : 0 < length c.deref.result.now = c.goes_on.ensures.some c.rounds-test.true in
    let same : length nodes ≡ length c.deref.result.now = ap length here ∙ sym (ap length c.deref.ensures.value) in
    let bound = c.rounds.invariant.looks in
    let spread : IsSpread edge nodes met c.clear.new.self.items met2 found2 =
    subst (λ o. IfSome o (λ (left : ℕ). IsSpread edge nodes met c.clear.new.self.items met2 found2)) c.in-Some.is c.in_ok-rest.ensures.spread in
    record {
      size = c.meet_parents.ensures.size ∙ c.rounds.invariant.size;
      looks = omega (arith, left, some, same, bound);
      met = subst (λ v. IsMet label_at edge set (c.rounds.edges + 1) v.items met2) (sym c.swap.ensures.x_after)
          (met_next label_at edge set (g.met.G.Digraph.ends c.args.g.now) c.rounds.edges c.rounds.current.items met found2 met2 c.rounds.invariant.met
          (subst (λ f. IsSpread edge c.rounds.current.items met f met2 found2) c.clear.ensures.items (subst (λ n. IsSpread edge n met c.clear.new.self.items met2 found2) here spread)));
    }
