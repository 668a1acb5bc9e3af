use Rattle.std.proofs.Common.{◌≡◌, ◌-◌}
use Rattle.workload.specs.MadeTexts.{after_lines}
use Rattle.workload.proofs.triples.skip_triples.Given as goal

abbrev pub invariant-loop : goal.invariant-loop
invariant-loop l = after_lines (l.count - l.counter) l.generator.state ≡ after_lines l.count l.fn.generator.state
