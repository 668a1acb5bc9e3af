use Rattle.keyed_quotient.proofs.Lists.{CountsTo}
use Rattle.keyed_quotient.proofs.numbering.count_up.Given as goal

abbrev pub invariant-numbers : goal.invariant-numbers
invariant-numbers l = CountsTo l.i l.numbers.items
