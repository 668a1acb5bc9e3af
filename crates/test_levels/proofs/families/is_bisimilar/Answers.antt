use Rattle.std.proofs.Common.{arith}
use Rattle.test_levels.proofs.families.is_bisimilar.Goals as goal

pub returns : goal.returns
returns c =
    let level = c.in_ok-family.ensures.agrees c.args.i (omega arith) in
    (λ h. level.related c.args.u c.args.v (c.same.ensures.0 h), λ h. c.same.ensures.1 (level.grouped c.args.u c.args.v c.requires.first c.requires.second h))
