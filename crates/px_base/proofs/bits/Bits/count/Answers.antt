use Rattle.std.proofs.Common.{arith}
use Rattle.px_base.specs.BitSets.{flags_of}
use Rattle.px_base.proofs.FlagIndexes.{members-below, places-rising}
use Rattle.px_base.proofs.bits.Bits.count.Goals as goal

pub returns-clause-rising : goal.returns-clause-rising
returns-clause-rising c = rw (← c.self.view_is) (places-rising 0 (flags_of c.self.inside.flags.items))

pub returns-clause-below : goal.returns-clause-below
returns-clause-below c =
    rw (← c.self.view_is) (λ n e. let h = members-below c.self.inside.flags.items n e in grind arith)
