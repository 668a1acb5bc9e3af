use Rattle.std.proofs.Common.{rules, ap, Err}
use Rattle.std.proofs.lemmas.Result.{on_ok_weaker}
use Rattle.index_saving.proofs.SavedFileLaws.{kept_kind}
use Rattle.script_interpreter.proofs.EngineCalls.{open_forgotten, forget_obeyed, lacks_obeyed}
use Rattle.script_interpreter.proofs.interpreter.forget.Goals as goal

pub returns-in-Ok-clause-ready : goal.returns-in-Ok-clause-ready
returns-in-Ok-clause-ready g c = open_forgotten c.args.kind _ _ c.requires.ready c.forget.ensures.sound c.forget.ensures.forgotten

pub returns-in-Err-clause-ready : goal.returns-in-Err-clause-ready
returns-in-Err-clause-ready g c = open_forgotten c.args.kind _ _ c.requires.ready c.forget.ensures.sound c.forget.ensures.forgotten

pub returns-in-Ok-clause-ok : goal.returns-in-Ok-clause-ok
returns-in-Ok-clause-ok g c n =
    on_ok_weaker c.push_ok.result (λ p. forget_obeyed n c.args.kind _ _ _ _ c.forget.ensures.forgotten (kept_kind _ _ _ c.in-Ok.ensures.no_index) p) c.push_ok.ensures.ok

pub returns-in-Err-clause-ok : goal.returns-in-Err-clause-ok
returns-in-Err-clause-ok g c n =
    let same = c.in-Err.ensures.no_other c.in-Err.refusal (search rules) in
    on_ok_weaker c.refuse.result
    (λ t. lacks_obeyed n c.args.kind _ _ _ _ c.forget.ensures.forgotten (c.in-Err.ensures.no_index.0 (ap Err same)) (rw same at t)) c.refuse.ensures.ok
