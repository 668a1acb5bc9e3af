use Rattle.keyed_quotient.specs.CarriedKeys.{AreCarried}
use Rattle.keyed_quotient.proofs.compacting.anew.Given as goal

abbrev pub invariant-blocks-2 : goal.invariant-blocks-2
invariant-blocks-2 l = AreCarried l.summary.blocks.labels l.numbers l.new l.b
