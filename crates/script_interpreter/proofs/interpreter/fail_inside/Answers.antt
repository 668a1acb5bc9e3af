use Rattle.std.proofs.Common.{Err, subst}
use Rattle.graph_spec.specs.ProgramLimits.{program_limits}
use Rattle.script_read.specs.ReadLines.{ReadsCommand}
use Rattle.script_interpreter.proofs.GroupLemmas.{limit_not_in_group, nothing_not_in_group}
use Rattle.script_interpreter.proofs.interpreter.fail_inside.Goals as goal

pub returns-in-Limit-clause-bad : goal.returns-in-Limit-clause-bad
returns-in-Limit-clause-bad c line reads = limit_not_in_group program_limits line (subst (λ x. ReadsCommand program_limits line (Err x)) c.in-Limit.is reads)

pub returns-in-Bad-clause-bad : goal.returns-in-Bad-clause-bad
returns-in-Bad-clause-bad c line reads = nothing_not_in_group program_limits line (subst (λ x. ReadsCommand program_limits line (Err x)) c.in-Bad.is reads)
