use Rattle.std.proofs.Common.{refl}
use Rattle.quotient.proofs.Looked.{support_raised}
use Rattle.quotient.proofs.supports.Supports.raise.Goals as goal

pub returns-then-raise_at : goal.returns-then-raise_at
returns-then-raise_at c x y = rw (c.raise_at.ensures.raised c.if-raise_at.true) (support_raised c.args.self.now.pairs c.args.a c.args.b x y)

pub returns : goal.returns
returns c x y = rw (c.in_ok-i.ensures, c.if-raise_at.ensures.same refl) (support_raised c.args.self.now.pairs c.args.a c.args.b x y)
