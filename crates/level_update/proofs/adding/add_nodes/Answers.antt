use Rattle.std.proofs.Common.{arith, [], ℕ, List, sym, subst, take, get_or}
use Rattle.graph_update.specs.PendingChanges.{graph_after}
use Rattle.graph_effects.proofs.ListedEffects.{came_live, came_dead, live_small, nodes_next}
use Rattle.level_update.specs.LevelEffects.{lone_nodes, IsLevelOnWay}
use Rattle.level_update.proofs.EffectLevels.{own_some, own_labelled, below_same, same_next, way_joined}
use Rattle.level_update.proofs.adding.add_nodes.Goals as goal

pub label-label-requires : goal.label-label-requires
label-label-requires c = record {
  live = came_live c.args.after.now.before (graph_after c.args.after.now) c.came-came.result.now c.args.effects.now c.joins.n-index c.requires.effects c.came-came.ensures c.joins-test.true;
}

pub first_number-number-requires-clause-some : goal.first_number-number-requires-clause-some
first_number-number-requires-clause-some c =
    own_some (graph_after c.args.after.now) (lone_nodes c.args.effects.now) c.args.family.now c.joins.draft c.args.i (get_or c.came-came.result.now c.joins.n-index 0) c.label-label.result
    (below_same (lone_nodes c.args.effects.now) (graph_after c.args.after.now) c.args.family.now c.args.draft.now c.joins.draft c.args.i c.joins.invariant.others c.requires.below)
    (came_live c.args.after.now.before (graph_after c.args.after.now) c.came-came.result.now c.args.effects.now c.joins.n-index c.requires.effects c.came-came.ensures c.joins-test.true)

pub add_node-requires-clause-small : goal.add_node-requires-clause-small
add_node-requires-clause-small c =
    live_small (graph_after c.args.after.now) (get_or c.came-came.result.now c.joins.n-index 0) c.created-known.ensures.after
    (came_live c.args.after.now.before (graph_after c.args.after.now) c.came-came.result.now c.args.effects.now c.joins.n-index c.requires.effects c.came-came.ensures c.joins-test.true)
    (let count = c.created-known.ensures.count in let few = c.created-known.ensures.few in omega (arith, count, few))

pub add_node-requires-clause-labelled : goal.add_node-requires-clause-labelled
add_node-requires-clause-labelled c =
    own_labelled (graph_after c.args.after.now) (lone_nodes c.args.effects.now) c.args.family.now c.joins.draft c.args.i (get_or c.came-came.result.now c.joins.n-index 0) c.label-label.result
    c.first_number-number.result
    (below_same (lone_nodes c.args.effects.now) (graph_after c.args.after.now) c.args.family.now c.args.draft.now c.joins.draft c.args.i c.joins.invariant.others c.requires.below)
    c.joins.invariant.way.over c.requires.level c.joins.invariant.way.begin c.label-label.ensures.number c.first_number-number.ensures

pub joins-preserved : goal.joins-preserved
joins-preserved c =
    let g = c.args.after.now.before in
    let g2 = graph_after c.args.after.now in
    let came = c.came-came.result.now in
    let at_place = c.joins.n-index in
    record {
      way = subst (λ (xs : List ℕ). IsLevelOnWay g2 g xs [] c.args.family.now c.add_node.new.draft c.args.i) (sym (nodes_next came at_place c.joins-test.true))
          (way_joined g g2 (lone_nodes c.args.effects.now) (take at_place came) c.args.family.now c.joins.draft c.add_node.new.draft c.args.i (get_or came at_place 0) c.label-label.result
          c.first_number-number.result c.requires.before.graph (came_dead g g2 came c.args.effects.now at_place c.requires.effects c.came-came.ensures c.joins-test.true)
          (below_same (lone_nodes c.args.effects.now) g2 c.args.family.now c.args.draft.now c.joins.draft c.args.i c.joins.invariant.others c.requires.below) c.joins.invariant.way
          c.add_node.ensures.others c.label-label.ensures.number c.first_number-number.ensures c.in_ok-add_node.ensures.added c.in_ok-add_node.ensures.supports);
      others = same_next c.args.i c.args.draft.now c.joins.draft c.add_node.new.draft c.joins.invariant.others c.add_node.ensures.others;
    }
