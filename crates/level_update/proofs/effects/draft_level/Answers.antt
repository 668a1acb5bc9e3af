use Rattle.graph_update.specs.PendingChanges.{graph_after}
use Rattle.level_update.specs.LevelEffects.{lone_nodes}
use Rattle.level_update.proofs.EffectLevels.{way_start, way_done, same_next}
use Rattle.level_update.proofs.effects.draft_level.Goals as goal

pub add_nodes-requires-clause-start : goal.add_nodes-requires-clause-start
add_nodes-requires-clause-start c =
    way_start c.args.after.now.before (graph_after c.args.after.now) (lone_nodes c.args.effects.now) c.args.family.now c.args.draft.now c.args.i
    c.requires.before.bases c.requires.level c.requires.over c.requires.none c.requires.below

pub returns-in_err-lower_edges-clause-others : goal.returns-in_err-lower_edges-clause-others
returns-in_err-lower_edges-clause-others c = same_next c.args.i c.args.draft.now c.add_nodes.new.draft c.lower_edges.new.draft c.add_nodes.ensures.others c.lower_edges.ensures.others

pub returns-in_err-leave_nodes-clause-others : goal.returns-in_err-leave_nodes-clause-others
returns-in_err-leave_nodes-clause-others c =
    same_next c.args.i c.args.draft.now c.lower_edges.new.draft c.leave_nodes.new.draft
    (same_next c.args.i c.args.draft.now c.add_nodes.new.draft c.lower_edges.new.draft c.add_nodes.ensures.others c.lower_edges.ensures.others) c.leave_nodes.ensures.others

pub returns-in_err-raise_edges-clause-others : goal.returns-in_err-raise_edges-clause-others
returns-in_err-raise_edges-clause-others c =
    same_next c.args.i c.args.draft.now c.leave_nodes.new.draft c.raise_edges.new.draft
    (same_next c.args.i c.args.draft.now c.lower_edges.new.draft c.leave_nodes.new.draft
    (same_next c.args.i c.args.draft.now c.add_nodes.new.draft c.lower_edges.new.draft c.add_nodes.ensures.others c.lower_edges.ensures.others) c.leave_nodes.ensures.others)
    c.raise_edges.ensures.others

pub returns-clause-drafted : goal.returns-clause-drafted
returns-clause-drafted c =
    way_done c.args.after.now.before (graph_after c.args.after.now) c.args.effects.now c.args.family.now c.raise_edges.new.draft c.args.i c.requires.effects c.requires.before.graph_after
    c.requires.before.bases c.requires.level c.in_ok-raise_edges.ensures.raised

pub returns-clause-others : goal.returns-clause-others
returns-clause-others c =
    same_next c.args.i c.args.draft.now c.leave_nodes.new.draft c.raise_edges.new.draft
    (same_next c.args.i c.args.draft.now c.lower_edges.new.draft c.leave_nodes.new.draft
    (same_next c.args.i c.args.draft.now c.add_nodes.new.draft c.lower_edges.new.draft c.add_nodes.ensures.others c.lower_edges.ensures.others) c.leave_nodes.ensures.others)
    c.raise_edges.ensures.others
