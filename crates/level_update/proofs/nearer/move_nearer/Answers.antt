use Rattle.std.proofs.Common.{◌+◌, ◌≤◌, ℕ, Bool, sym, ◌∙◌, subst, arith, length}
use Rattle.graph_spec.specs.Members.{has, Lists}
use Rattle.graph_spec.specs.Shapes.{shape_of}
use Rattle.bisim_spec.specs.SidedLevels.{spread, affected}
use Rattle.bisim_spec.proofs.Reached.{within_more}
use Rattle.graph_update.specs.PendingChanges.{graph_after}
use Rattle.affected_nodes.proofs.SearchCosts.{starts}
use Rattle.level_update.proofs.PlacingCosts.{level_most, near_most, spent_most}
use Rattle.level_update.proofs.DraftLevels.{moving_placed, keyed_start, keyed_next}
use Rattle.level_update.proofs.NearLevels.{near_placed, near_all}
use Rattle.level_update.proofs.nearer.move_nearer.Goals as goal

pub loop-i-init : goal.loop-i-init
loop-i-init g c =
    let graph = graph_after c.args.after.now in
    let ends : ℕ → Bool = has c.args.ends.now in
    let search = c.affected_nodes.ensures.cost in
    let less = near_most c.args.sides c.args.after.now ends c.most_edges.result c.k-k.result c.most_edges.ensures.few in
    record {
      moving = c.requires.moving;
      near = c.requires.near;
      keyed = keyed_start c.args.sides (affected c.args.sides (shape_of graph) ends) graph c.args.family.now c.args.draft.now;
      cost = omega (arith, search, less);
    }

pub loop-i-preserved : goal.loop-i-preserved
loop-i-preserved g c =
    let graph = graph_after c.args.after.now in
    let ends : ℕ → Bool = has c.args.ends.now in
    let i = c.loop-i.i in
    let below : i ≤ c.k-k.result = omega arith in
    let few = c.most_edges.ensures.enough in
    let within : i ≤ c.most_edges.result = omega (arith, few) in
    let inv = c.loop-i.invariant in
    let placed = c.in_ok-place_all.ensures.placed in
    let listed : Lists (affected c.args.sides (shape_of graph) ends i) c.within-nodes.result.now =
    subst (Lists (affected c.args.sides (shape_of graph) ends i)) (sym c.within-nodes.ensures) (c.in_ok-found.ensures.within_distance.each i within) in
    let most = level_most c.args.sides c.args.after.now c.args.ends.now i c.k-k.result c.within-nodes.result.now (starts c.args.after.now (has c.args.ends.now) c.created-known.ensures.new c.created-known.ensures.before c.created-known.ensures.after c.requires.live) listed below in
    let so_far = inv.cost in
    let here = c.place_all.ensures.cost in
    record {
      moving = moving_placed c.args.sides ends graph c.args.family.now c.loop-i.draft c.place_all.new.draft i c.within-nodes.result.now inv.moving placed
          (λ n h. within_more (spread c.args.sides (shape_of graph)) ends i (i + 1) n (omega arith) (sym (listed.members n) ∙ h));
      near = near_placed c.args.sides ends c.args.after.now.before graph c.args.family.now c.loop-i.draft c.place_all.new.draft i c.within-nodes.result.now inv.near placed listed.members;
      keyed = keyed_next c.args.sides (affected c.args.sides (shape_of graph) ends) graph c.args.family.now c.loop-i.draft c.place_all.new.draft i c.within-nodes.result.now inv.keyed placed listed;
      cost = omega (arith, most, so_far, here);
    }

pub returns-in_err-found-clause-cost : goal.returns-in_err-found-clause-cost
returns-in_err-found-clause-cost g c = λ k e.
    let search = c.affected_nodes.ensures.cost in
    let less = near_most c.args.sides c.args.after.now (has c.args.ends.now) c.most_edges.result c.k-k.result c.most_edges.ensures.few in
    spent_most c.args.sides c.args.after.now c.args.ends.now c.k-k.result 0 c.args.steps.now c.affected_nodes.new.steps (omega arith)
    (omega (arith, search, less)) (length c.args.family.now) k c.k-k.ensures.count e

pub returns-in_err-place_all-clause-cost : goal.returns-in_err-place_all-clause-cost
returns-in_err-place_all-clause-cost g c = λ k e.
    let graph = graph_after c.args.after.now in
    let ends : ℕ → Bool = has c.args.ends.now in
    let i = c.loop-i.i in
    let below : i ≤ c.k-k.result = omega arith in
    let next : i + 1 ≤ c.k-k.result = omega arith in
    let few = c.most_edges.ensures.enough in
    let within : i ≤ c.most_edges.result = omega (arith, few) in
    let listed : Lists (affected c.args.sides (shape_of graph) ends i) c.within-nodes.result.now =
    subst (Lists (affected c.args.sides (shape_of graph) ends i)) (sym c.within-nodes.ensures) (c.in_ok-found.ensures.within_distance.each i within) in
    let most = level_most c.args.sides c.args.after.now c.args.ends.now i c.k-k.result c.within-nodes.result.now (starts c.args.after.now (has c.args.ends.now) c.created-known.ensures.new c.created-known.ensures.before c.created-known.ensures.after c.requires.live) listed below in
    let so_far = c.loop-i.invariant.cost in
    let here = c.place_all.ensures.cost in
    spent_most c.args.sides c.args.after.now c.args.ends.now c.k-k.result (i + 1) c.args.steps.now c.place_all.new.steps next
    (omega (arith, most, so_far, here)) (length c.args.family.now) k c.k-k.ensures.count e

pub returns-clause-keyed : goal.returns-clause-keyed
returns-clause-keyed g c =
    let end = c.loop-i-test.false in
    let count = c.k-k.ensures.count in
    let inv = c.loop-i.invariant in
    near_all c.args.sides (has c.args.ends.now) c.args.after.now.before (graph_after c.args.after.now) c.args.family.now c.loop-i.draft c.requires.before c.requires.differs inv.near c.loop-i.i
    c.requires.keyed inv.moving inv.keyed (omega (arith, end, count))

pub returns-clause-cost : goal.returns-clause-cost
returns-clause-cost g c = λ k e.
    let cost = c.loop-i.invariant.cost in
    spent_most c.args.sides c.args.after.now c.args.ends.now c.k-k.result c.loop-i.i c.args.steps.now c.loop-i.steps c.loop-i.auto.i-end cost
    (length c.args.family.now) k c.k-k.ensures.count e
