use Rattle.std.proofs.Common.{rules}
use Rattle.graph_spec.specs.Members.{at}
use Rattle.ak_family.specs.LevelDrafts.{blocks_shown}
use Rattle.level_update.proofs.keys.write_level_key.Goals as goal

pub returns : goal.returns
returns c = c.in_ok-write_sided_key.ensures (at (blocks_shown c.args.family.now c.args.draft.now c.args.i)) (λ n o within allocated. search rules)
