use Rattle.std.proofs.Common.{◌+◌, ◌≤◌, ℕ, Bool, sym, ◌∙◌, ap, subst, arith, length}
use Rattle.graph_spec.specs.Members.{has, Lists}
use Rattle.graph_spec.specs.Shapes.{shape_of}
use Rattle.bisim_spec.specs.SidedLevels.{affected}
use Rattle.graph_update.specs.PendingChanges.{graph_after}
use Rattle.keyed_quotient.specs.Changes.{KeyedChanges, blocks_as_shown}
use Rattle.ak_family.specs.Families.{level_at}
use Rattle.affected_nodes.proofs.SearchCosts.{starts}
use Rattle.level_update.proofs.PlacingCosts.{level_most, spent_most}
use Rattle.level_update.proofs.DraftLevels.{moving_placed, keyed_next, keyed_all, one_more}
use Rattle.level_update.proofs.moving.move_affected.Goals as goal

pub loop-i-preserved : goal.loop-i-preserved
loop-i-preserved g c =
    let graph = graph_after c.args.after.now in
    let ends : ℕ → Bool = has c.args.ends.now in
    let i = c.loop-i.i in
    let below : c.loop-i.i + 1 ≤ c.k-k.result = omega arith in
    let inv = c.loop-i.invariant in
    let placed = c.in_ok-place_all.ensures.placed in
    let listed : Lists (affected c.args.sides (shape_of graph) ends (c.loop-i.i + 1)) c.within-nodes.result.now =
    subst (Lists (affected c.args.sides (shape_of graph) ends (c.loop-i.i + 1))) (sym c.within-nodes.ensures) (c.in_ok-found.ensures.within_distance.each (c.loop-i.i + 1) below) in
    let most = level_most c.args.sides c.args.after.now c.args.ends.now (c.loop-i.i + 1) c.k-k.result c.within-nodes.result.now (starts c.args.after.now (has c.args.ends.now) c.created-known.ensures.new c.created-known.ensures.before c.created-known.ensures.after c.requires.live) listed below in
    let so_far = inv.cost in
    let here = c.place_all.ensures.cost in
    record {
      moving = moving_placed c.args.sides ends graph c.args.family.now c.loop-i.draft c.place_all.new.draft i c.within-nodes.result.now inv.moving placed (λ n h. sym (listed.members n) ∙ h);
      keyed = keyed_next c.args.sides (one_more c.args.sides ends graph) graph c.args.family.now c.loop-i.draft c.place_all.new.draft i c.within-nodes.result.now inv.keyed placed listed;
      lowest = ap (λ (x : KeyedChanges). blocks_as_shown (level_at c.args.family.now 0) x) (placed.others 0 (λ e. absurd (omega (arith, e)))) ∙ inv.lowest;
      cost = omega (arith, most, so_far, here);
    }

pub returns-in_err-found-clause-cost : goal.returns-in_err-found-clause-cost
returns-in_err-found-clause-cost g c = λ k e.
    let cost = c.affected_nodes.ensures.cost in
    spent_most c.args.sides c.args.after.now c.args.ends.now c.k-k.result 0 c.args.steps.now c.affected_nodes.new.steps (omega arith)
    (omega (arith, cost)) (length c.args.family.now) k c.k-k.ensures.count e

pub returns-in_err-place_all-clause-cost : goal.returns-in_err-place_all-clause-cost
returns-in_err-place_all-clause-cost g c = λ k e.
    let graph = graph_after c.args.after.now in
    let ends : ℕ → Bool = has c.args.ends.now in
    let below : c.loop-i.i + 1 ≤ c.k-k.result = omega arith in
    let listed : Lists (affected c.args.sides (shape_of graph) ends (c.loop-i.i + 1)) c.within-nodes.result.now =
    subst (Lists (affected c.args.sides (shape_of graph) ends (c.loop-i.i + 1))) (sym c.within-nodes.ensures) (c.in_ok-found.ensures.within_distance.each (c.loop-i.i + 1) below) in
    let most = level_most c.args.sides c.args.after.now c.args.ends.now (c.loop-i.i + 1) c.k-k.result c.within-nodes.result.now (starts c.args.after.now (has c.args.ends.now) c.created-known.ensures.new c.created-known.ensures.before c.created-known.ensures.after c.requires.live) listed below in
    let so_far = c.loop-i.invariant.cost in
    let here = c.place_all.ensures.cost in
    spent_most c.args.sides c.args.after.now c.args.ends.now c.k-k.result (c.loop-i.i + 1) c.args.steps.now c.place_all.new.steps below
    (omega (arith, most, so_far, here)) (length c.args.family.now) k c.k-k.ensures.count e

pub returns-clause-keyed : goal.returns-clause-keyed
returns-clause-keyed g c =
    let end = c.loop-i-test.false in
    let count = c.k-k.ensures.count in
    keyed_all c.args.sides (has c.args.ends.now) (graph_after c.args.after.now) c.args.family.now c.loop-i.draft c.loop-i.i c.loop-i.invariant.keyed (omega (arith, end, count))

pub returns-clause-cost : goal.returns-clause-cost
returns-clause-cost g c = λ k e.
    let cost = c.loop-i.invariant.cost in
    spent_most c.args.sides c.args.after.now c.args.ends.now c.k-k.result c.loop-i.i c.args.steps.now c.loop-i.steps c.loop-i.auto.i-end cost
    (length c.args.family.now) k c.k-k.ensures.count e
