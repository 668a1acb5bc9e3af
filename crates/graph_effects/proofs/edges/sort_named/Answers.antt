use Rattle.std.proofs.Common.{◌≡◌, ◌+◌, ◌∷◌, ◌++◌, subst, arith, drop, List}
use Rattle.change_spec.specs.Steps.{Step}
use Rattle.graph_steps.specs.StepLists.{step_of}
use Rattle.graph_steps.proofs.NamedParts.{counted, step_there}
use Rattle.graph_update.specs.PendingChanges.{graph_after}
use Rattle.graph_effects.specs.Effects.{is_new_edge}
use Rattle.graph_effects.specs.StepEffects.{named_where, is_cut}
use Rattle.graph_effects.proofs.NamedPairs.{named_next, none_behind}
use Rattle.graph_effects.proofs.edges.sort_named.Goals as goal

pub named_last-named-requires : goal.named_last-named-requires
named_last-named-requires g c =
    let len = counted c.steps-all.result.now c.args.change.now c.steps-all.ensures in
    let below = c.loop-i-test.true in
    omega (arith, len, below)

pub loop-i-preserved : goal.loop-i-preserved
loop-i-preserved g c =
    let a = c.args.after.now in
    let all = c.steps-all.result.now in
    let whole = c.args.change.now in
    let i = c.loop-i.i in
    let s = step_of c.index-all-i.result in
    let there : drop i whole ≡ s ∷ drop (i + 1) whole =
    subst (λ (k : List Step). drop i k ≡ s ∷ drop (i + 1) k) c.steps-all.ensures (step_there all i c.index-all-i.result c.loop-i-test.true c.index-all-i.is) in
    let so_far = c.loop-i.invariant.cost in
    let one = c.sort_step.ensures.cost in
    record {
      lost = named_next (is_cut a.before (graph_after a)) s (drop (i + 1) whole) (drop i whole) c.named_last-named.result c.loop-i.lost.items c.sort_step.new.lost.items
          (c.args.lost.now.items ++ named_where (is_cut a.before (graph_after a)) whole) there c.loop-i.invariant.lost c.named_last-named.ensures c.in_ok-sort_step.ensures.lost;
      added = named_next (is_new_edge a.before (graph_after a)) s (drop (i + 1) whole) (drop i whole) c.named_last-named.result c.loop-i.added.items c.sort_step.new.added.items
          (c.args.added.now.items ++ named_where (is_new_edge a.before (graph_after a)) whole) there c.loop-i.invariant.added c.named_last-named.ensures c.in_ok-sort_step.ensures.added;
      cost = omega (arith, so_far, one);
    }

pub returns-clause-lost : goal.returns-clause-lost
returns-clause-lost g c =
    let a = c.args.after.now in
    let len = counted c.steps-all.result.now c.args.change.now c.steps-all.ensures in
    let past = c.loop-i-test.false in
    none_behind (is_cut a.before (graph_after a)) c.args.change.now c.loop-i.i c.loop-i.lost.items (c.args.lost.now.items ++ named_where (is_cut a.before (graph_after a)) c.args.change.now)
    (omega (arith, len, past)) c.loop-i.invariant.lost

pub returns-clause-added : goal.returns-clause-added
returns-clause-added g c =
    let a = c.args.after.now in
    let len = counted c.steps-all.result.now c.args.change.now c.steps-all.ensures in
    let past = c.loop-i-test.false in
    none_behind (is_new_edge a.before (graph_after a)) c.args.change.now c.loop-i.i c.loop-i.added.items (c.args.added.now.items ++ named_where (is_new_edge a.before (graph_after a)) c.args.change.now)
    (omega (arith, len, past)) c.loop-i.invariant.added

pub returns-clause-cost : goal.returns-clause-cost
returns-clause-cost g c =
    let len = counted c.steps-all.result.now c.args.change.now c.steps-all.ensures in
    let so_far = c.loop-i.invariant.cost in
    let most = c.loop-i.auto.i-end in
    omega (arith, len, so_far, most)

pub returns-in_err-sort_step-clause-cost : goal.returns-in_err-sort_step-clause-cost
returns-in_err-sort_step-clause-cost g c =
    let len = counted c.steps-all.result.now c.args.change.now c.steps-all.ensures in
    let so_far = c.loop-i.invariant.cost in
    let one = c.sort_step.ensures.cost in
    let below = c.loop-i-test.true in
    omega (arith, len, so_far, one, below)
