use Rattle.ak_family.specs.LevelDrafts.{labels_shown, key_shown}
use Rattle.ak_family.proofs.KeyedBlocks.{found_block}
use Rattle.ak_family.proofs.family.AkFamily.keyed_block.Goals as goal

pub further_block-requires-clause-fresh : goal.further_block-requires-clause-fresh
further_block-requires-clause-fresh c = λ b e. (let found = (c.find.ensures.leads b).1 e in let none = c.in-None.is in absurd (cc))

pub returns-in-Some-clause-block : goal.returns-in-Some-clause-block
returns-in-Some-clause-block c =
    found_block c.args.label c.in-Some.b c.args.key.now (labels_shown c.args.self.now c.args.d.now c.args.i) (key_shown c.args.self.now c.args.d.now c.args.i) c.in-Some.ensures.live
    ((c.find.ensures.leads c.in-Some.b).0 c.in-Some.is)
