use Rattle.std.proofs.Common.{arith, length}
use Rattle.px_base.proofs.Windows.{plain-take}
use Rattle.px_base.proofs.window.plain_len.Goals as goal

pub returns-in-Some-clause-plain : goal.returns-in-Some-clause-plain
returns-in-Some-clause-plain c = plain-take _ c.in-Some.place (λ k h l. c.in-Some.ensures.0.before k (omega arith) h)

pub returns-in-None-clause-plain : goal.returns-in-None-clause-plain
returns-in-None-clause-plain c = plain-take _ (length c.args.bytes.now) (λ k h l. c.in-None.ensures k (omega arith) h)
