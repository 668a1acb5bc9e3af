use Rattle.keyed_quotient.proofs.Grown.{KnownBelow}
use Rattle.keyed_quotient.proofs.settling.know_all.Given as goal

abbrev pub invariant-keys : goal.invariant-keys
invariant-keys l = KnownBelow l.keys l.i l.initial.numbers l.numbers
