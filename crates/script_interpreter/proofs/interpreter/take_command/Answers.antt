use Rattle.std.proofs.Common.{true≢false, sym, None, refl}
use Rattle.std.proofs.lemmas.Result.{IfOk-weaker}
use Rattle.script_read.specs.ReadLines.{command_of}
use Rattle.script_interpreter.specs.EngineStates.{state_of}
use Rattle.script_interpreter.proofs.TakenLemmas.{obeyed_taken}
use Rattle.script_interpreter.proofs.GroupLemmas.{none_kept}
use Rattle.script_interpreter.proofs.interpreter.take_command.Goals as goal

pub obey-requires-clause-alone : goal.obey-requires-clause-alone
obey-requires-clause-alone g c = c.if-is_alone.ensures.0 refl

pub returns-in_ok-obey-clause-ok : goal.returns-in_ok-obey-clause-ok
returns-in_ok-obey-clause-ok g c line reads =
    (None, none_kept _ c.requires.none, obeyed_taken _ c.args.number line (command_of c.args.command) c.args.output.now _ _ reads.0 reads.1 c.in_ok-obey.ensures.ok)

pub take_mark-requires-clause-mark : goal.take_mark-requires-clause-mark
take_mark-requires-clause-mark g c = λ a. true≢false (sym (c.if-is_alone.ensures.1 a))

pub returns-else-is_alone-clause-ok : goal.returns-else-is_alone-clause-ok
returns-else-is_alone-clause-ok g c =
    IfOk-weaker c.take_mark.result _ _ (λ outcome h line reads. h (state_of g.B.PathIndex.meaning c.args.engine.now c.args.names.now.names) c.args.output.now line reads.0 reads.1) c.take_mark.ensures
