use Rattle.std.proofs.Common.{◌≡◌}
use Rattle.label_graph.specs.LabelTable.{exchanged}
use Rattle.label_graph.proofs.ExchangedNumbers.{replaced}
use Rattle.label_graph.proofs.numbers.exchange.Given as goal

abbrev pub invariant-loop-i : goal.invariant-loop-i
invariant-loop-i l = l.numbers.items ≡ replaced (exchanged l.a l.b) l.i l.fn.numbers.items
