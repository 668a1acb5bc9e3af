use Rattle.ak_family.proofs.SettledBelow.{IsSettledBelow}
use Rattle.ak_family.proofs.settling.settle_all.Given as goal

abbrev pub invariant-levels : goal.invariant-levels
invariant-levels l = IsSettledBelow l.fn.levels.items l.fn.drafts.items l.levels.items l.drafts.items l.i
