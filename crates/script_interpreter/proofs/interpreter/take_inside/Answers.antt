use Rattle.std.proofs.Common.{Some, Ok, refl, subst}
use Rattle.std.proofs.lemmas.Result.{IfOk-weaker}
use Rattle.graph_spec.specs.ProgramLimits.{program_limits}
use Rattle.script_read.specs.ReadLines.{ReadsCommand}
use Rattle.script_interpreter.specs.declared.interpreter.Outcome.TheVariants.{Bad}
use Rattle.script_interpreter.proofs.GroupLemmas.{silent_taken}
use Rattle.script_interpreter.proofs.ReachedLemmas.{ok_fact}
use Rattle.script_interpreter.proofs.interpreter.take_inside.Goals as goal

pub returns-in-Ok-Some-clause-ok : goal.returns-in-Ok-Some-clause-ok
returns-in-Ok-Some-clause-ok g c n =
    IfOk-weaker c.take_inner.result _ _
    (λ outcome h number line group reads k.
    (let spelled = subst (λ x. ReadsCommand program_limits line (Ok x)) c.in-Ok-Some.field-0-is (subst (ReadsCommand program_limits line) c.in-Ok-Some.is reads) in
    h number line group spelled.0 k)) (c.take_inner.ensures.ok n)

pub returns-in-Ok-None-clause-ok : goal.returns-in-Ok-None-clause-ok
returns-in-Ok-None-clause-ok g c n number line group reads k =
    let quiet = subst (λ x. ReadsCommand program_limits line (Ok x)) c.in-Ok-None.field-0-is (subst (ReadsCommand program_limits line) c.in-Ok-None.is reads) in
    (Some group, k, silent_taken _ number line group c.args.output.now quiet)

pub returns-in-Err-clause-ok : goal.returns-in-Err-clause-ok
returns-in-Err-clause-ok g c n =
    ok_fact c.fail_inside.result Bad _ _ c.fail_inside.ensures.outcome c.fail_inside.ensures.bad
    (λ never number line group reads k. (Some group, k, record { bad = never line (subst (ReadsCommand program_limits line) c.in-Err.is reads); state = refl; gathered_is = refl }))
