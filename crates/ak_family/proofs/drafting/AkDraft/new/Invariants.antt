use Rattle.ak_family.proofs.Drafted.{AreNone}
use Rattle.ak_family.proofs.drafting.AkDraft.new.Given as goal

abbrev pub invariant-loop : goal.invariant-loop
invariant-loop l = AreNone l.counter l.levels.items
