use Rattle.graph_update.specs.PendingChanges.{graph_after}
use Rattle.level_update.specs.LevelEffects.{lone_nodes}
use Rattle.level_update.proofs.EffectLevels.{below_same, same_next}
use Rattle.level_update.proofs.RelabelledLevels.{relabelled_done}
use Rattle.level_update.proofs.effects.draft_whole.Goals as goal

pub relabel_nodes-requires-clause-below : goal.relabel_nodes-requires-clause-below
relabel_nodes-requires-clause-below g c =
    below_same (lone_nodes c.args.effects.now) (graph_after c.args.after.now) c.args.family.now c.args.draft.now c.draft_level.new.draft c.args.i c.draft_level.ensures.others c.requires.below

pub returns-in_err-relabel_nodes-clause-others : goal.returns-in_err-relabel_nodes-clause-others
returns-in_err-relabel_nodes-clause-others g c = same_next c.args.i c.args.draft.now c.draft_level.new.draft c.relabel_nodes.new.draft c.draft_level.ensures.others c.relabel_nodes.ensures.others

pub returns-clause-drafted : goal.returns-clause-drafted
returns-clause-drafted g c =
    relabelled_done c.args.effects.now (graph_after c.args.after.now) c.args.family.now c.relabel_nodes.new.draft c.args.i c.in_ok-relabel_nodes.ensures.drafted

pub returns-clause-others : goal.returns-clause-others
returns-clause-others g c = same_next c.args.i c.args.draft.now c.draft_level.new.draft c.relabel_nodes.new.draft c.draft_level.ensures.others c.relabel_nodes.ensures.others

pub returns-clause-over : goal.returns-clause-over
returns-clause-over g c = c.in_ok-relabel_nodes.ensures.drafted.over
