use Rattle.ak_family.proofs.Built.{IsBuilt}
use Rattle.ak_family.proofs.family.AkFamily.build.Given as goal

abbrev pub invariant-loop : goal.invariant-loop
invariant-loop l = IsBuilt l.sides l.view l.counter l.levels.items l.below.block.items l.below.labels.items
