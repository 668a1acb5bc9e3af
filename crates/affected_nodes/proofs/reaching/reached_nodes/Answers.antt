use Rattle.std.proofs.Common.{◌≡◌, length, arith, ap, sym, subst}
use Rattle.std.specs.List.{sum_by}
use Rattle.graph_spec.specs.Members.{has, Lists}
use Rattle.graph_spec.specs.Shapes.{shape_of}
use Rattle.graph_spec.proofs.GraphLaws.{is_shape}
use Rattle.bisim_spec.specs.Reach.{reach}
use Rattle.graph_update.specs.PendingChanges.{graph_after}
use Rattle.bisim_spec.specs.declared.sides.Sides.TheVariants as sides
use Rattle.affected_nodes.specs.ReadCosts.{spread_cost}
use Rattle.affected_nodes.specs.AffectedSearches.{IsSpread}
use Rattle.affected_nodes.proofs.Distances.{met_first}
use Rattle.affected_nodes.proofs.MetChildren.{first_again}
use Rattle.affected_nodes.proofs.SearchCosts.{starts, below}
use Rattle.affected_nodes.proofs.ReachRounds.{IsReaching, reaching_first, reaching_next, reaching_all, reaching_few, reaching_most, reaching_part}
use Rattle.affected_nodes.proofs.reaching.reached_nodes.Goals as goal

pub rounds-init : goal.rounds-init
rounds-init g c = record {
  reaching =
      reaching_first (shape_of (graph_after c.args.after.now)) c.args.targets.now c.meet.new.met.keys
      (met_first c.new-met.result.keys c.meet.new.met.keys c.args.targets.now c.new-met.ensures.empty c.in_ok-meet.ensures.has);
  cost = omega arith;
}

pub returns-in_err-spread-clause-cost : goal.returns-in_err-spread-clause-cost
returns-in_err-spread-clause-cost g c =
    let most = reaching_most c.args.after.now (has c.args.targets.now) c.rounds.from c.rounds.met.keys c.len.ensures.unique
    (starts c.args.after.now (has c.args.targets.now) c.created-known.ensures.new c.created-known.ensures.before c.created-known.ensures.after c.requires.live) c.rounds.invariant.reaching in
    let so_far = c.rounds.invariant.cost in
    let cost = c.spread.ensures.cost in
    omega (arith, most, so_far, cost)

pub rounds-smaller : goal.rounds-smaller
rounds-smaller g c =
    let few = reaching_few (shape_of (graph_after c.args.after.now)) (has c.args.targets.now) c.rounds.from c.rounds.met.keys c.len.ensures.unique
    (is_shape (graph_after c.args.after.now) c.created-known.ensures.after) (below c.args.after.now (has c.args.targets.now) (starts c.args.after.now (has c.args.targets.now) c.created-known.ensures.new c.created-known.ensures.before c.created-known.ensures.after c.requires.live)) c.rounds.invariant.reaching in
    let more = c.rounds-test.true in
    let len = c.len.ensures.len in
    let end = c.len-end.ensures.len in
    omega (arith, few, more, len, end)

pub rounds-preserved : goal.rounds-preserved
rounds-preserved g c =
    let s = shape_of (graph_after c.args.after.now) in
    let keys = c.rounds.met.keys in
    let keys2 = c.spread.new.met.keys in
    let end : c.len-end.result ≡ length keys = c.len-end.ensures.len in
    let spread : IsSpread s keys (length keys) keys2 = c.in_ok-spread.ensures.spread in
    let next : IsReaching s (has c.args.targets.now) (length keys) keys2 =
    reaching_next s (has c.args.targets.now) c.rounds.from keys keys2 (is_shape (graph_after c.args.after.now) c.created-known.ensures.after) c.rounds.invariant.reaching spread in
    let prefix = first_again keys keys2 c.len-end.result spread.prefix end in
    let same = ap (sum_by (spread_cost sides.Parents c.args.after.now)) prefix in
    let so_far = c.rounds.invariant.cost in
    let cost = c.spread.ensures.cost in
    record {
      reaching = subst (λ m. IsReaching s (has c.args.targets.now) m keys2) (sym end) next;
      cost = omega (arith, so_far, cost, same);
    }

pub returns-in_err-nodes-clause-cost : goal.returns-in_err-nodes-clause-cost
returns-in_err-nodes-clause-cost g c =
    let most = reaching_part c.args.after.now (has c.args.targets.now) c.rounds.from c.rounds.met.keys c.len.ensures.unique
    (starts c.args.after.now (has c.args.targets.now) c.created-known.ensures.new c.created-known.ensures.before c.created-known.ensures.after c.requires.live) c.rounds.invariant.reaching in
    let so_far = c.rounds.invariant.cost in
    omega (arith, most, so_far)

pub returns-clause-reached : goal.returns-clause-reached
returns-clause-reached g c =
    let s = shape_of (graph_after c.args.after.now) in
    let past = c.rounds-test.false in
    let len = c.len.ensures.len in
    let all = reaching_all s (has c.args.targets.now) c.rounds.from c.rounds.met.keys c.len.ensures.unique c.rounds.invariant.reaching (omega (arith, past, len)) in
    let same = c.in_ok-nodes.ensures.items_if_clones_equal (λ x y e. e) in
    let keys = c.as_slice.ensures.keys in
    subst (Lists (reach s (has c.args.targets.now))) (sym (let z : c.in_ok-nodes.nodes.items ≡ c.rounds.met.keys = cc in z)) all

pub returns-clause-cost : goal.returns-clause-cost
returns-clause-cost g c =
    let most = reaching_part c.args.after.now (has c.args.targets.now) c.rounds.from c.rounds.met.keys c.len.ensures.unique
    (starts c.args.after.now (has c.args.targets.now) c.created-known.ensures.new c.created-known.ensures.before c.created-known.ensures.after c.requires.live) c.rounds.invariant.reaching in
    let so_far = c.rounds.invariant.cost in
    omega (arith, most, so_far)
