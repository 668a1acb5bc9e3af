use Rattle.std.proofs.Common.{[], ◌∷◌}
use Rattle.ak_family.specs.LevelDrafts.{labels_shown, key_shown}
use Rattle.level_update.proofs.LoneBlocks.{lone_label}
use Rattle.level_update.proofs.adding.lone_block.Goals as goal

pub returns-clause-label : goal.returns-clause-label
returns-clause-label c =
    lone_label c.args.label c.in_ok-b.b (c.args.number ∷ []) (labels_shown c.args.family.now c.args.draft.now c.args.i) (labels_shown c.args.family.now c.keyed_block.new.d c.args.i)
    (key_shown c.args.family.now c.args.draft.now c.args.i) (key_shown c.args.family.now c.keyed_block.new.d c.args.i) c.in_ok-b.ensures.block c.requires.labelled
