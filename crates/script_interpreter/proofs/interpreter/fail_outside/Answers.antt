use Rattle.std.proofs.Common.{Err, inl, refl, subst}
use Rattle.graph_spec.specs.ProgramLimits.{program_limits}
use Rattle.script_read.specs.ReadLines.{ReadsCommand}
use Rattle.script_interpreter.proofs.TakenLemmas.{over_taken}
use Rattle.script_interpreter.proofs.interpreter.fail_outside.Goals as goal

pub returns-in_ok-refuse-in-Limit-clause-ok : goal.returns-in_ok-refuse-in-Limit-clause-ok
returns-in_ok-refuse-in-Limit-clause-ok c s number line reads =
    over_taken s number line c.args.output.now _ (subst (λ x. ReadsCommand program_limits line (Err x)) c.in-Limit.is reads) c.in_ok-refuse-in-Limit.ensures.ok

pub returns-in-Bad-clause-ok : goal.returns-in-Bad-clause-ok
returns-in-Bad-clause-ok c s number line reads =
    record { bad = inl (subst (λ x. ReadsCommand program_limits line (Err x)) c.in-Bad.is reads); state = refl; gathered_is = refl }
