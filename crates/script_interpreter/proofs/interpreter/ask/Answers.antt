use Rattle.std.proofs.Common.{ap, Err, true, false}
use Rattle.std.proofs.lemmas.Result.{on_ok_weaker}
use Rattle.graph_spec.specs.declared.refusal.Refusal.TheVariants.{NoIndex}
use Rattle.branch_query.specs.Queries.{query_of}
use Rattle.extent_report.specs.PrintedAnswers.{answer_text}
use Rattle.script_interpreter.specs.Rules.{prints_nodes}
use Rattle.script_interpreter.specs.LineTexts.{refused_line}
use Rattle.script_interpreter.specs.Indexes.{answered, not_asked}
use Rattle.script_interpreter.proofs.EngineCalls.{open_asked, query_obeyed}
use Rattle.script_interpreter.proofs.interpreter.ask.Goals as goal

pub returns-in_err-text-in-Ok-clause-ready : goal.returns-in_err-text-in-Ok-clause-ready
returns-in_err-text-in-Ok-clause-ready g c = open_asked _ _ c.requires.ready c.ask.ensures.sound c.ask.ensures.asked

pub returns-in_ok-text-in-Ok-clause-ready : goal.returns-in_ok-text-in-Ok-clause-ready
returns-in_ok-text-in-Ok-clause-ready g c = open_asked _ _ c.requires.ready c.ask.ensures.sound c.ask.ensures.asked

pub returns-in-Err-NoIndex-clause-ready : goal.returns-in-Err-NoIndex-clause-ready
returns-in-Err-NoIndex-clause-ready g c = open_asked _ _ c.requires.ready c.ask.ensures.sound c.ask.ensures.asked

pub returns-in-Err-Memory-clause-ready : goal.returns-in-Err-Memory-clause-ready
returns-in-Err-Memory-clause-ready g c = open_asked _ _ c.requires.ready c.ask.ensures.sound c.ask.ensures.asked

pub returns-in_ok-text-in-Ok-clause-ok : goal.returns-in_ok-text-in-Ok-clause-ok
returns-in_ok-text-in-Ok-clause-ok g c n =
    let a = c.in-Ok.answer in
    let old = c.args.output.now in
    let text = rw c.prints_nodes.ensures at c.in_ok-text-in-Ok.ensures in
    on_ok_weaker c.push.result
    (λ p. query_obeyed n _ _ c.args.via (query_of c.args.query.now) (answer_text a.how (prints_nodes old.printing) a.nodes.members) false old _ c.ask.ensures.asked
    (answered c.args.via a.how a.nodes.members c.in-Ok.ensures.queried.answered) (rw (c.as_bytes.ensures.bytes, text) at p)) c.push.ensures.ok

pub returns-in-Err-NoIndex-clause-ok : goal.returns-in-Err-NoIndex-clause-ok
returns-in-Err-NoIndex-clause-ok g c n =
    let none = c.in-Err-NoIndex.ensures.queried.no_index.0 (ap Err c.in-Err-NoIndex.field-0-is) in
    on_ok_weaker c.refuse.result
    (λ t. query_obeyed n _ _ c.args.via (query_of c.args.query.now) (refused_line NoIndex) true _ _ c.ask.ensures.asked (not_asked c.args.via none.0 none.1) t) c.refuse.ensures.ok
