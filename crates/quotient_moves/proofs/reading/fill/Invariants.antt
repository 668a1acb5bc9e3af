use Rattle.std.proofs.Common.{◌≡◌}
use Rattle.quotient_moves.proofs.reading.fill.Given as goal

abbrev pub invariant-loop-n : goal.invariant-loop-n
invariant-loop-n l = l.list.items ≡ l.yielded
