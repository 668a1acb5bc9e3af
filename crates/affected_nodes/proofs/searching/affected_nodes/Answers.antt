use Rattle.std.proofs.Common.{◌≡◌, ◌+◌, ◌++◌, ◌∷◌, ℕ, List, length, [], arith, ap, sym, subst, ◌∙◌, refl}
use Rattle.std.specs.List.{sum_by}
use Rattle.graph_spec.specs.Members.{has}
use Rattle.graph_spec.specs.Shapes.{shape_of}
use Rattle.graph_spec.proofs.GraphLaws.{is_shape}
use Rattle.graph_update.specs.PendingChanges.{graph_after}
use Rattle.bisim_spec.proofs.LevelSides.{spread_shape}
use Rattle.bisim_spec.specs.SidedLevels.{spread}
use Rattle.affected_nodes.specs.ReadCosts.{spread_cost}
use Rattle.affected_nodes.specs.AffectedSearches.{IsSpread}
use Rattle.affected_nodes.proofs.Distances.{IsSearched, met_first, searched_first, searched_next}
use Rattle.affected_nodes.proofs.MetChildren.{first_again}
use Rattle.affected_nodes.proofs.SearchCosts.{starts, met_most, first_most}
use Rattle.affected_nodes.proofs.searching.affected_nodes.Goals as goal

pub loop-init : goal.loop-init
loop-init g c = record {
  searched =
      searched_first (spread c.args.sides (shape_of (graph_after c.args.after.now))) c.args.targets.now c.meet.new.met.keys c.push.new.self.items c.len.ensures.unique
      (met_first c.new-met.result.keys c.meet.new.met.keys c.args.targets.now c.new-met.ensures.empty c.in_ok-meet.ensures.has)
      (c.in_ok-push.ensures.items ∙ ap (λ (xs : List ℕ). xs ++ c.len.result ∷ []) c.new-ends.ensures.items ∙ ap (λ m. m ∷ []) c.len.ensures.len);
  cost = omega arith;
  none = λ e. refl;
}

pub returns-in_err-spread-clause-cost : goal.returns-in_err-spread-clause-cost
returns-in_err-spread-clause-cost g c =
    let below = c.loop-test.true in
    let most = met_most c.args.sides c.args.after.now c.args.targets.now c.loop.met.keys c.loop.ends.items c.loop.counter c.loop.from c.args.k
    (starts c.args.after.now (has c.args.targets.now) c.created-known.ensures.new c.created-known.ensures.before c.created-known.ensures.after c.requires.live) c.loop.invariant.searched (omega (arith, below)) in
    let so_far = c.loop.invariant.cost in
    let cost = c.spread.ensures.cost in
    omega (arith, most, so_far, cost)

pub returns-in_err-push-2-clause-cost : goal.returns-in_err-push-2-clause-cost
returns-in_err-push-2-clause-cost g c =
    let below = c.loop-test.true in
    let most = met_most c.args.sides c.args.after.now c.args.targets.now c.loop.met.keys c.loop.ends.items c.loop.counter c.loop.from c.args.k
    (starts c.args.after.now (has c.args.targets.now) c.created-known.ensures.new c.created-known.ensures.before c.created-known.ensures.after c.requires.live) c.loop.invariant.searched (omega (arith, below)) in
    let so_far = c.loop.invariant.cost in
    let cost = c.spread.ensures.cost in
    omega (arith, most, so_far, cost)

pub loop-preserved : goal.loop-preserved
loop-preserved g c =
    let s = spread c.args.sides (shape_of (graph_after c.args.after.now)) in
    let keys = c.loop.met.keys in
    let keys2 = c.spread.new.met.keys in
    let end : c.len-end.result ≡ length keys = c.len-end.ensures.len in
    let met : IsSpread s keys (length keys) keys2 = c.in_ok-spread.ensures.spread in
    let next : IsSearched s (has c.args.targets.now) (c.loop.counter + 1) (length keys) keys2 c.push-in-loop.new.self.items =
    searched_next s (has c.args.targets.now) c.loop.counter c.loop.from keys keys2 c.loop.ends.items c.push-in-loop.new.self.items
    (spread_shape c.args.sides (shape_of (graph_after c.args.after.now)) (is_shape (graph_after c.args.after.now) c.created-known.ensures.after)) c.loop.invariant.searched met c.len-in-loop.ensures.unique
    (c.in_ok-push-2.ensures.items ∙ ap (λ m. c.loop.ends.items ++ m ∷ []) c.len-in-loop.ensures.len)
    in
    let prefix = first_again keys keys2 c.len-end.result met.prefix end in
    let same = ap (sum_by (spread_cost c.args.sides c.args.after.now)) prefix in
    let so_far = c.loop.invariant.cost in
    let cost = c.spread.ensures.cost in
    record {
      searched = subst (λ m. IsSearched s (has c.args.targets.now) (c.loop.counter + 1) m keys2 c.push-in-loop.new.self.items) (sym end) next;
      cost = omega (arith, so_far, cost, same);
      none = λ e. absurd (omega (arith, e));
    }

pub returns-clause-cost : goal.returns-clause-cost
returns-clause-cost g c =
    let within = c.loop.auto.counter-end in
    let most = first_most c.args.sides c.args.after.now c.args.targets.now c.loop.met.keys c.loop.ends.items c.loop.counter c.loop.from c.args.k
    (starts c.args.after.now (has c.args.targets.now) c.created-known.ensures.new c.created-known.ensures.before c.created-known.ensures.after c.requires.live) c.loop.invariant.searched (omega (arith, within)) in
    let so_far = c.loop.invariant.cost in
    omega (arith, most, so_far)
