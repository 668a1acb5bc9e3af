use Rattle.std.proofs.Common.{None, Ok, subst, ◌∙◌, ap}
use Rattle.std.proofs.lemmas.Result.{IfOk-weaker}
use Rattle.graph_spec.specs.ProgramLimits.{program_limits}
use Rattle.script_read.specs.ReadLines.{ReadsCommand}
use Rattle.script_interpreter.specs.EngineStates.{state_of}
use Rattle.script_interpreter.proofs.TakenLemmas.{quiet_taken}
use Rattle.script_interpreter.proofs.GroupLemmas.{none_kept}
use Rattle.script_interpreter.proofs.interpreter.take_outside.Goals as goal

pub returns-in-Ok-Some-clause-ok : goal.returns-in-Ok-Some-clause-ok
returns-in-Ok-Some-clause-ok g c =
    IfOk-weaker c.take_command.result _ _ (λ outcome h line reads. h line (subst (ReadsCommand program_limits line) (c.in-Ok-Some.is ∙ ap Ok c.in-Ok-Some.field-0-is) reads)) c.take_command.ensures.ok

pub returns-in-Ok-None-clause-ok : goal.returns-in-Ok-None-clause-ok
returns-in-Ok-None-clause-ok g c line reads =
    let quiet = subst (λ x. ReadsCommand program_limits line (Ok x)) c.in-Ok-None.field-0-is (subst (ReadsCommand program_limits line) c.in-Ok-None.is reads) in
    (None, none_kept _ c.requires.none, quiet_taken _ c.args.number line c.args.output.now quiet)

pub returns-in-Err-clause-ok : goal.returns-in-Err-clause-ok
returns-in-Err-clause-ok g c =
    IfOk-weaker c.fail_outside.result _ _
    (λ outcome h line reads.
    (None, none_kept _ c.requires.none, h (state_of g.B.PathIndex.meaning c.args.engine.now c.args.names.now.names) c.args.number line (subst (ReadsCommand program_limits line) c.in-Err.is reads)))
    c.fail_outside.ensures.ok
