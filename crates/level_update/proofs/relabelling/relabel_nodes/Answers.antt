use Rattle.std.proofs.Common.{ℕ, List, arith, sym, subst, ap, take, get_or}
use Rattle.std.specs.List.{sum_by}
use Rattle.one_spec.proofs.Sums.{sum_first, sum_next}
use Rattle.graph_update.specs.PendingChanges.{graph_after}
use Rattle.graph_effects.proofs.ListedEffects.{relabelled_live, nodes_next}
use Rattle.level_update.specs.LevelCosts.{move_cost}
use Rattle.level_update.specs.LevelEffects.{lone_nodes, IsLevelRelabelled}
use Rattle.level_update.proofs.EffectLevels.{own_some, own_labelled, below_same, same_next}
use Rattle.level_update.proofs.RelabelledLevels.{relabelled_next}
use Rattle.level_update.proofs.relabelling.relabel_nodes.Goals as goal

pub label-label-requires : goal.label-label-requires
label-label-requires g c = record {
  live = relabelled_live c.args.after.now.before (graph_after c.args.after.now) c.relabelled-list.result.now c.args.effects.now c.moves.n-index c.requires.effects c.relabelled-list.ensures c.moves-test.true;
}

pub first_number-number-requires-clause-some : goal.first_number-number-requires-clause-some
first_number-number-requires-clause-some g c =
    own_some (graph_after c.args.after.now) (lone_nodes c.args.effects.now) c.args.family.now c.moves.draft c.args.i (get_or c.relabelled-list.result.now c.moves.n-index 0) c.label-label.result
    (below_same (lone_nodes c.args.effects.now) (graph_after c.args.after.now) c.args.family.now c.args.draft.now c.moves.draft c.args.i c.moves.invariant.others c.requires.below)
    (relabelled_live c.args.after.now.before (graph_after c.args.after.now) c.relabelled-list.result.now c.args.effects.now c.moves.n-index c.requires.effects c.relabelled-list.ensures c.moves-test.true)

pub relabel_node-requires-clause-live : goal.relabel_node-requires-clause-live
relabel_node-requires-clause-live g c =
    relabelled_live c.args.after.now.before (graph_after c.args.after.now) c.relabelled-list.result.now c.args.effects.now c.moves.n-index c.requires.effects c.relabelled-list.ensures c.moves-test.true

pub relabel_node-requires-clause-labelled : goal.relabel_node-requires-clause-labelled
relabel_node-requires-clause-labelled g c =
    own_labelled (graph_after c.args.after.now) (lone_nodes c.args.effects.now) c.args.family.now c.moves.draft c.args.i (get_or c.relabelled-list.result.now c.moves.n-index 0) c.label-label.result
    c.first_number-number.result
    (below_same (lone_nodes c.args.effects.now) (graph_after c.args.after.now) c.args.family.now c.args.draft.now c.moves.draft c.args.i c.moves.invariant.others c.requires.below)
    c.moves.invariant.way.over c.requires.level c.moves.invariant.way.begin c.label-label.ensures.number c.first_number-number.ensures

pub moves-preserved : goal.moves-preserved
moves-preserved g c =
    let g2 = graph_after c.args.after.now in
    let e = c.args.effects.now in
    let list = c.relabelled-list.result.now in
    let i = c.moves.n-index in
    let under = below_same (lone_nodes e) g2 c.args.family.now c.args.draft.now c.moves.draft c.args.i c.moves.invariant.others c.requires.below in
    let live = relabelled_live c.args.after.now.before g2 list e i c.requires.effects c.relabelled-list.ensures c.moves-test.true in
    let more = sum_next (move_cost c.args.after.now) list i 0 c.moves-test.true in
    let so_far = c.moves.invariant.cost in
    let here = c.relabel_node.ensures.cost in
    record {
      way = subst (λ (xs : List ℕ). IsLevelRelabelled e xs g2 c.args.family.now c.relabel_node.new.draft c.args.i) (sym (nodes_next list i c.moves-test.true))
          (relabelled_next e (take i list) g2 c.args.family.now c.moves.draft c.relabel_node.new.draft c.args.i (get_or list i 0) c.label-label.result c.first_number-number.result under
          c.moves.invariant.way c.relabel_node.ensures.others live c.label-label.ensures.number c.first_number-number.ensures c.in_ok-relabel_node.ensures.added
          c.in_ok-relabel_node.ensures.supports);
      others = same_next c.args.i c.args.draft.now c.moves.draft c.relabel_node.new.draft c.moves.invariant.others c.relabel_node.ensures.others;
      cost = omega (arith, more, so_far, here);
    }

pub returns-in_err-relabel_node-clause-others : goal.returns-in_err-relabel_node-clause-others
returns-in_err-relabel_node-clause-others g c =
    same_next c.args.i c.args.draft.now c.moves.draft c.relabel_node.new.draft c.moves.invariant.others c.relabel_node.ensures.others

pub returns-in_err-relabel_node-clause-cost : goal.returns-in_err-relabel_node-clause-cost
returns-in_err-relabel_node-clause-cost g c =
    let first = sum_first (move_cost c.args.after.now) c.relabelled-list.result.now c.moves.n-index 0 c.moves-test.true in
    let so_far = c.moves.invariant.cost in
    let here = c.relabel_node.ensures.cost in
    let same = ap (sum_by (move_cost c.args.after.now)) c.relabelled-list.ensures in
    omega (arith, first, so_far, here, same)
