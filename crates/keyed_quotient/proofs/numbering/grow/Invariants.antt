use Rattle.keyed_quotient.proofs.Lists.{Lengthens}
use Rattle.keyed_quotient.proofs.numbering.grow.Given as goal

abbrev pub invariant-places : goal.invariant-places
invariant-places l = Lengthens l.initial.list.items l.counter l.list.items
