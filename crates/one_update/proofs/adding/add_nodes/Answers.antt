use Rattle.std.proofs.Common.{arith, [], List, ℕ, sym, subst, take, get_or}
use Rattle.graph_update.specs.PendingChanges.{graph_after}
use Rattle.graph_effects.proofs.ListedEffects.{came_live, came_dead, live_small, nodes_next}
use Rattle.one_update.specs.EffectDrafts.{IsIndexOnWay}
use Rattle.one_update.proofs.IndexEffects.{index_joined}
use Rattle.one_update.proofs.adding.add_nodes.Goals as goal

pub label-label-requires : goal.label-label-requires
label-label-requires c = record {
  live = came_live c.args.after.now.before (graph_after c.args.after.now) c.came-came.result.now c.args.effects.now c.joins.n-index c.requires.effects c.came-came.ensures c.joins-test.true;
}

pub add_node-requires-clause-small : goal.add_node-requires-clause-small
add_node-requires-clause-small c =
    live_small (graph_after c.args.after.now) (get_or c.came-came.result.now c.joins.n-index 0) c.created-known.ensures.after
    (came_live c.args.after.now.before (graph_after c.args.after.now) c.came-came.result.now c.args.effects.now c.joins.n-index c.requires.effects c.came-came.ensures c.joins-test.true)
    (let count = c.created-known.ensures.count in let few = c.created-known.ensures.few in omega (arith, count, few))

pub joins-preserved : goal.joins-preserved
joins-preserved c =
    let g = c.args.after.now.before in
    let g2 = graph_after c.args.after.now in
    let came = c.came-came.result.now in
    let at_place = c.joins.n-index in
    record {
      way = subst (λ (xs : List ℕ). IsIndexOnWay g2 g xs [] c.args.base.now c.add_node.new.draft) (sym (nodes_next came at_place c.joins-test.true))
          (index_joined g g2 (take at_place came) c.args.base.now c.joins.draft c.add_node.new.draft (get_or came at_place 0) c.label-label.result c.requires.before.graph
          (came_dead g g2 came c.args.effects.now at_place c.requires.effects c.came-came.ensures c.joins-test.true) c.joins.invariant.way c.label-label.ensures.number
          c.in_ok-add_node.ensures.added);
    }
