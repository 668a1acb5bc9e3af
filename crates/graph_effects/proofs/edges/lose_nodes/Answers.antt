use Rattle.std.proofs.Common.{◌+◌, arith, subst, List, ℕ, take}
use Rattle.std.proofs.lemmas.List.{take_all}
use Rattle.std.proofs.lemmas.List.Sums.{sum_by-take-le}
use Rattle.graph_spec.specs.Shapes.{shape_of}
use Rattle.bisim_spec.specs.Weights.{weight_at}
use Rattle.graph_update.specs.PendingChanges.{graph_after}
use Rattle.one_spec.proofs.Sums.{sum_next}
use Rattle.graph_effects.specs.Effects.{ListsPairs}
use Rattle.graph_effects.specs.StepEffects.{is_lost_with}
use Rattle.graph_effects.proofs.GoneEdges.{lost_none, lost_next, lost_all, next_apart, next_off}
use Rattle.graph_effects.proofs.StepEffects.{gone_weight}
use Rattle.graph_effects.proofs.edges.lose_nodes.Goals as goal

pub lose_node-requires : goal.lose_node-requires
lose_node-requires g c =
    let a = c.args.after.now in
    record {
      graph = c.requires.graph;
      gone = next_off a.before (graph_after a) c.args.gone.now c.loop-i.i c.requires.gone c.loop-i-test.true;
    }

pub loop-i-init : goal.loop-i-init
loop-i-init g c = record {
  lost = lost_none c.args.after.now.before (graph_after c.args.after.now) c.args.lost.now.items c.requires.lost;
  cost = omega arith;
}

pub loop-i-preserved : goal.loop-i-preserved
loop-i-preserved g c =
    let a = c.args.after.now in
    let gone = c.args.gone.now in
    let i = c.loop-i.i in
    let within = c.loop-i-test.true in
    let inv = c.loop-i.invariant in
    let so_far = inv.cost in
    let next = sum_next (weight_at (shape_of a.before)) gone i 0 within in
    let cost = c.lose_node.ensures.cost in
    record {
      lost = lost_next a.before (graph_after a) gone i c.lose_node.new.lost.items c.created-known.ensures.after c.requires.gone within
          (c.in_ok-lose_node.ensures.lost (is_lost_with a.before (graph_after a) (take i gone)) inv.lost (next_apart a.before (graph_after a) gone i c.requires.gone within));
      cost = omega (arith, so_far, next, cost);
    }

pub returns-clause-lost : goal.returns-clause-lost
returns-clause-lost g c =
    let a = c.args.after.now in
    lost_all a.before (graph_after a) c.args.gone.now c.loop-i.lost.items c.created-known.ensures.before c.requires.gone
    (subst (λ (ns : List ℕ). ListsPairs (is_lost_with a.before (graph_after a) ns) c.loop-i.lost.items) (take_all c.loop-i.i c.args.gone.now c.loop-i-test.false) c.loop-i.invariant.lost)

pub returns-clause-cost : goal.returns-clause-cost
returns-clause-cost g c =
    let a = c.args.after.now in
    let so_far = c.loop-i.invariant.cost in
    let part = sum_by-take-le (weight_at (shape_of a.before)) c.args.gone.now c.loop-i.i in
    let all = gone_weight a.before (graph_after a) c.args.gone.now c.requires.gone in
    omega (arith, so_far, part, all)

pub returns-in_err-lose_node-clause-cost : goal.returns-in_err-lose_node-clause-cost
returns-in_err-lose_node-clause-cost g c =
    let a = c.args.after.now in
    let gone = c.args.gone.now in
    let i = c.loop-i.i in
    let within = c.loop-i-test.true in
    let so_far = c.loop-i.invariant.cost in
    let next = sum_next (weight_at (shape_of a.before)) gone i 0 within in
    let part = sum_by-take-le (weight_at (shape_of a.before)) gone (i + 1) in
    let all = gone_weight a.before (graph_after a) gone c.requires.gone in
    let cost = c.lose_node.ensures.cost in
    omega (arith, so_far, next, part, all, cost)
