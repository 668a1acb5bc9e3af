use Rattle.std.proofs.Common.{subst}
use Rattle.px_base.specs.Files.{AppendsPrefix}
use Rattle.script_interpreter.proofs.PieceLaws.{nothing_yet, next_part}
use Rattle.script_interpreter.proofs.saving.write_part.Goals as goal

pub returns-in-Err-write_bytes-clause-part : goal.returns-in-Err-write_bytes-clause-part
returns-in-Err-write_bytes-clause-part g c =
    next_part _ _ _ _ _ _ c.clear.ensures.bytes c.in-Ok.ensures.given
    (subst (AppendsPrefix (g.K.Sink.written c.args.sink.now) (g.K.Sink.written c.write_bytes.new.sink)) c.as_bytes.ensures.value c.in-Err-write_bytes.ensures.part)

pub returns-in-Err-clause-part : goal.returns-in-Err-clause-part
returns-in-Err-clause-part g c = nothing_yet _ _
