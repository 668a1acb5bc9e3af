use Rattle.ak_family.proofs.Drafted.{IsCleared}
use Rattle.ak_family.proofs.drafting.AkDraft.clear.Given as goal

abbrev pub invariant-loop-i : goal.invariant-loop-i
invariant-loop-i l = IsCleared l.fn.self l.self-inside.levels.items l.i
