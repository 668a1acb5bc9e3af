use Rattle.std.proofs.Common.{ℕ, List, sym, subst, arith, take, get_or}
use Rattle.std.proofs.lemmas.List.{take_more}
use Rattle.graph_update.specs.PendingChanges.{graph_after}
use Rattle.level_update.specs.LevelCosts.{place_cost}
use Rattle.level_update.specs.Placed.{ArePlaced}
use Rattle.one_spec.proofs.Sums.{sum_first, sum_next}
use Rattle.level_update.proofs.MovedNodes.{placed_next}
use Rattle.level_update.proofs.level.place_all.Goals as goal

pub loop-n-preserved : goal.loop-n-preserved
loop-n-preserved g c =
    let nodes = c.args.nodes.now in
    let i = c.loop-n.n-index in
    let next = placed_next c.args.sides (graph_after c.args.after.now) c.args.family.now c.args.draft.now c.loop-n.draft c.place.new.draft c.args.i (get_or nodes i 0) (take i nodes) c.loop-n.invariant.placed
    c.in_ok-place.ensures.placed in
    let more = sum_next (place_cost c.args.sides c.args.after.now) nodes i 0 c.loop-n-test.true in
    let so_far = c.loop-n.invariant.cost in
    let here = c.place.ensures.cost in
    record {
      placed = subst (λ (xs : List ℕ). ArePlaced c.args.sides (graph_after c.args.after.now) c.args.family.now c.args.draft.now c.place.new.draft c.args.i xs) (sym (take_more nodes i 0 c.loop-n-test.true)) next;
      cost = omega (arith, more, so_far, here);
    }

pub returns-in_err-place-clause-cost : goal.returns-in_err-place-clause-cost
returns-in_err-place-clause-cost g c =
    let first = sum_first (place_cost c.args.sides c.args.after.now) c.args.nodes.now c.loop-n.n-index 0 c.loop-n-test.true in
    let so_far = c.loop-n.invariant.cost in
    let here = c.place.ensures.cost in
    omega (arith, first, so_far, here)
