use Rattle.std.proofs.lemmas.Result.{on_ok_weaker}
use Rattle.script_interpreter.proofs.EngineCalls.{open_asked, sizes_obeyed}
use Rattle.script_interpreter.proofs.interpreter.measure.Goals as goal

pub returns-in_err-text-clause-ready : goal.returns-in_err-text-clause-ready
returns-in_err-text-clause-ready g c = open_asked _ _ c.requires.ready c.sizes.ensures.sound c.sizes.ensures.asked

pub returns-clause-ready : goal.returns-clause-ready
returns-clause-ready g c = open_asked _ _ c.requires.ready c.sizes.ensures.sound c.sizes.ensures.asked

pub returns-clause-ok : goal.returns-clause-ok
returns-clause-ok g c n = on_ok_weaker c.push.result (λ p. sizes_obeyed n _ _ _ _ _ c.sizes.ensures.asked c.in_ok-text.ensures.measured.text (rw c.as_bytes.ensures.bytes at p)) c.push.ensures.ok
