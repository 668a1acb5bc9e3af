use Rattle.std.proofs.Common.{◌/◌, sym, refl}
use Rattle.std.proofs.Math.Nat.{mod-zero}
use Rattle.workload.specs.Generator.{number_at}
use Rattle.workload.proofs.generator.Generator.number.Goals as goal

pub returns-then-bound-eq0-clause-number : goal.returns-then-bound-eq0-clause-number
unfolding number_at
returns-then-bound-eq0-clause-number c = rw c.if-bound-eq0.true (sym (mod-zero (c.args.self.state / 8589934592)))

pub returns-else-bound-eq0-clause-number : goal.returns-else-bound-eq0-clause-number
unfolding number_at
returns-else-bound-eq0-clause-number c = refl
