use Rattle.std.proofs.Common.{ℕ, List, sym, subst, take, get_or}
use Rattle.graph_update.specs.PendingChanges.{graph_after}
use Rattle.graph_effects.specs.Effects.{without_edges}
use Rattle.graph_effects.proofs.ListedEffects.{gone_there, gone_small, nodes_next}
use Rattle.level_update.specs.LevelEffects.{IsLevelOnWay}
use Rattle.level_update.proofs.EffectLevels.{same_next, way_left}
use Rattle.level_update.proofs.leaving.leave_nodes.Goals as goal

pub leave_node-requires-clause-small : goal.leave_node-requires-clause-small
leave_node-requires-clause-small c =
    gone_small c.args.after.now.before (graph_after c.args.after.now) c.gone-gone.result.now c.args.effects.now c.leaves.n-index c.requires.effects c.requires.before.graph c.gone-gone.ensures
    c.leaves-test.true c.requires.before.small

pub leaves-preserved : goal.leaves-preserved
leaves-preserved c =
    let g = c.args.after.now.before in
    let g2 = graph_after c.args.after.now in
    let e = c.args.effects.now in
    let gone = c.gone-gone.result.now in
    let at_place = c.leaves.n-index in
    record {
      way = subst (λ (xs : List ℕ). IsLevelOnWay g2 (without_edges g e.lost) e.came xs c.args.family.now c.leave_node.new.draft c.args.i) (sym (nodes_next gone at_place c.leaves-test.true))
          (way_left g g2 e (take at_place gone) c.args.family.now c.leaves.draft c.leave_node.new.draft c.args.i (get_or gone at_place 0) c.requires.effects c.requires.before.graph_after
          (gone_there gone e at_place c.gone-gone.ensures c.leaves-test.true) c.leaves.invariant.way c.leave_node.ensures.others c.in_ok-leave_node.ensures.left);
      others = same_next c.args.i c.args.draft.now c.leaves.draft c.leave_node.new.draft c.leaves.invariant.others c.leave_node.ensures.others;
    }
