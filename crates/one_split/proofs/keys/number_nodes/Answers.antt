use Rattle.std.proofs.Common.{◌≡◌, ◌++◌, ◌∷◌, [], ℕ, length, arith, sym, ap, subst, length-append}
use Rattle.std.specs.Prelude.{slice_index, Bool}
use Rattle.graph_spec.specs.Graphs.{has_edge}
use Rattle.graph_spec.specs.Members.{at}
use Rattle.bisim_spec.specs.NodeKeys.{IsKey}
use Rattle.graph_update.specs.PendingChanges.{graph_after}
use Rattle.quotient_draft.specs.Drafts.{shown_blocks}
use Rattle.quotient_moves.specs.NeighbourCosts.{parents_cost}
use Rattle.one_split.specs.Numbered.{HaveNumbers}
use Rattle.one_spec.proofs.Sums.{sum_next, sum_first}
use Rattle.one_split.proofs.NumberedNodes.{numbered_more}
use Rattle.one_split.proofs.keys.number_nodes.Goals as goal

pub returns-in_err-push-clause-cost : goal.returns-in_err-push-clause-cost
returns-in_err-push-clause-cost g c =
    let first = sum_first (parents_cost c.args.after.now) c.args.nodes.now c.loop-n.n-index 0 c.loop-n-test.true in
    let so_far = c.loop-n.invariant.cost in
    let here = c.number_of.ensures.cost in
    omega (arith, first, so_far, here)

pub loop-n-preserved : goal.loop-n-preserved
loop-n-preserved g c =
    let p = shown_blocks c.args.base.now c.args.draft.now in
    let neighbours : ℕ → ℕ → Bool = has_edge (graph_after c.args.after.now) in
    let nodes = c.args.nodes.now in
    let numbers = c.loop-n.numbers.items in
    let added : c.push.new.self.items ≡ c.loop-n.numbers.items ++ c.in_ok-k.k ∷ [] = c.in_ok-push.ensures.items in
    let count : length c.loop-n.numbers.items ≡ c.loop-n.n-index = c.loop-n.invariant.count in
    let ok = c.in_ok-k.ensures.ok in
    let more = numbered_more p neighbours c.loop-n.keys c.number_of.new.keys nodes numbers c.in_ok-k.k ok.0 c.loop-n.invariant.numbered
    (subst (λ i. IsKey (at p) p neighbours (slice_index nodes i) ok.0) (sym count) ok.1) ok.2 in
    let next = sum_next (parents_cost c.args.after.now) c.args.nodes.now c.loop-n.n-index 0 c.loop-n-test.true in
    let so_far = c.loop-n.invariant.cost in
    let here = c.number_of.ensures.cost in
    let long = length-append c.loop-n.numbers.items (c.in_ok-k.k ∷ []) in
    let longer = ap length added in
    record {
      count = omega (arith, long, longer, count);
      numbered = subst (HaveNumbers p neighbours c.number_of.new.keys nodes) (sym added) more;
      cost = omega (arith, next, so_far, here);
    }
