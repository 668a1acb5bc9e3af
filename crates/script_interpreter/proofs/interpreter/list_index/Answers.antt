use Rattle.std.proofs.Common.{ap, Err, true, false}
use Rattle.std.proofs.lemmas.Result.{on_ok_weaker}
use Rattle.graph_spec.specs.declared.refusal.Refusal.TheVariants.{NoIndex}
use Rattle.script_interpreter.specs.LineTexts.{refused_line}
use Rattle.script_interpreter.specs.Indexes.{listed, unkept}
use Rattle.script_interpreter.proofs.EngineCalls.{open_asked, list_obeyed}
use Rattle.script_interpreter.proofs.interpreter.list_index.Goals as goal

pub returns-in-Ok-clause-ready : goal.returns-in-Ok-clause-ready
returns-in-Ok-clause-ready g c = open_asked _ _ c.requires.ready c.extents.ensures.sound c.extents.ensures.asked

pub returns-in-Err-NoIndex-clause-ready : goal.returns-in-Err-NoIndex-clause-ready
returns-in-Err-NoIndex-clause-ready g c = open_asked _ _ c.requires.ready c.extents.ensures.sound c.extents.ensures.asked

pub returns-in-Err-Memory-clause-ready : goal.returns-in-Err-Memory-clause-ready
returns-in-Err-Memory-clause-ready g c = open_asked _ _ c.requires.ready c.extents.ensures.sound c.extents.ensures.asked

pub returns-in-Ok-clause-ok : goal.returns-in-Ok-clause-ok
returns-in-Ok-clause-ok g c n =
    on_ok_weaker c.push.result
    (λ p. list_obeyed n _ _ c.args.via c.in-Ok.text false _ _ c.extents.ensures.asked (listed c.args.via c.in-Ok.text c.in-Ok.ensures.listed.text) (rw c.as_bytes.ensures.bytes at p)) c.push.ensures.ok

pub returns-in-Err-NoIndex-clause-ok : goal.returns-in-Err-NoIndex-clause-ok
returns-in-Err-NoIndex-clause-ok g c n =
    on_ok_weaker c.refuse.result
    (λ t. list_obeyed n _ _ c.args.via (refused_line NoIndex) true _ _ c.extents.ensures.asked
    (unkept c.args.via (c.in-Err-NoIndex.ensures.listed.no_index.0 (ap Err c.in-Err-NoIndex.field-0-is))) t) c.refuse.ensures.ok
