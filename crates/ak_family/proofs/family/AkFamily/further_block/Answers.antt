use Rattle.ak_family.specs.LevelDrafts.{labels_shown, key_shown}
use Rattle.ak_family.proofs.KeyedBlocks.{made_block}
use Rattle.ak_family.proofs.family.AkFamily.further_block.Goals as goal

pub returns-clause-block : goal.returns-clause-block
returns-clause-block c =
    made_block c.args.label c.in_ok-b.b c.args.key.now (labels_shown c.args.self.now c.args.d.now c.args.i) (labels_shown c.args.self.now c.new_block.new.d c.args.i)
    (key_shown c.args.self.now c.args.d.now c.args.i) (key_shown c.args.self.now c.new_block.new.d c.args.i) (c.requires.over.each c.args.i c.requires.level).keyed
    c.in_ok-b.ensures.least.free c.in_ok-b.ensures.labels c.in_ok-b.ensures.keys
