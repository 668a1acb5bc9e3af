use Rattle.std.specs.List.{zip}
use Rattle.keyed_quotient.specs.Numberings.{GivenBelow}
use Rattle.keyed_quotient.proofs.settling.give_all.Given as goal

abbrev pub invariant-keys : goal.invariant-keys
invariant-keys l = GivenBelow (zip l.blocks l.keys) l.i l.initial.numbers l.numbers
