use Rattle.std.proofs.Common.{◌≡◌, replicate, false}
use Rattle.path_automaton.proofs.frontier.Frontier.new.Given as goal

abbrev pub invariant-loop : goal.invariant-loop
invariant-loop l = l.rows.items ≡ replicate l.counter (replicate l.width false)
