use Rattle.ak_family.proofs.Reserved.{IsReserved}
use Rattle.ak_family.proofs.settling.reserve_all.Given as goal

abbrev pub invariant-levels : goal.invariant-levels
invariant-levels l = IsReserved l.fn.levels.items l.levels.items l.drafts.items l.i
