use Rattle.std.proofs.Common.{Err, ap, ◌∙◌}
use Rattle.script_interpreter.proofs.NextLines.{taken_goes, save_goes, bad_goes, bad_gathered, past_goes, end_goes}
use Rattle.script_interpreter.proofs.ReachedLemmas.{err_fact}
use Rattle.script_interpreter.proofs.script.next_line.Goals as goal

pub returns-in-Ok-Done-clause-goes : goal.returns-in-Ok-Done-clause-goes
returns-in-Ok-Done-clause-goes g c =
    taken_goes _ _ c.args.group.now c.take.new.group c.number.result c.line.result.now c.args.reader.now c.next.new.self _ _ _ c.args.output.now c.take.new.output c.requires.can
    (c.in-Ok-true.ensures.line c.in-Ok-true.field-0-test) c.line.ensures c.number.ensures (rw c.in-Ok-Done.field-0-is at c.in-Ok-Done.ensures.ok)

pub returns-in-Ok-Due-clause-goes : goal.returns-in-Ok-Due-clause-goes
returns-in-Ok-Due-clause-goes g c =
    save_goes _ _ c.args.group.now c.take.new.group c.line.result.now c.args.reader.now c.next.new.self _ _ _ c.args.output.now c.take.new.output c.requires.can
    (c.in-Ok-true.ensures.line c.in-Ok-true.field-0-test) c.line.ensures (rw c.in-Ok-Due.field-0-is at c.in-Ok-Due.ensures.ok)

pub returns-in-Ok-Bad-clause-goes : goal.returns-in-Ok-Bad-clause-goes
returns-in-Ok-Bad-clause-goes g c =
    bad_goes c.push_bad.result _ _ c.args.group.now c.take.new.group c.line.result.now c.number-in-Ok-Bad.result c.args.reader.now c.next.new.self _ _ c.args.output.now c.take.new.output c.push_bad.new.output
    (c.in-Ok-true.ensures.line c.in-Ok-true.field-0-test) c.line.ensures c.number-in-Ok-Bad.ensures (rw c.in-Ok-Bad.field-0-is at c.in-Ok-Bad.ensures.ok) c.push_bad.ensures.ok

pub returns-in-Ok-false-clause-goes : goal.returns-in-Ok-false-clause-goes
returns-in-Ok-false-clause-goes g c =
    end_goes c.push_end.result _ c.args.group.now c.args.reader.now c.next.new.self _ _ c.args.output.now c.push_end.new.output (c.in-Ok-false.ensures.over c.in-Ok-false.field-0-test) c.push_end.ensures.ok

pub returns-in-Err-Limit-clause-goes : goal.returns-in-Err-Limit-clause-goes
returns-in-Err-Limit-clause-goes g c =
    let limit = ap Err c.in-Err-Limit.field-0-is in
    past_goes c.push_bad-in-Err-Limit.result _ c.args.group.now c.number-in-Err-Limit.result c.args.reader.now c.next.new.self _ _ _ c.args.output.now c.push_bad-in-Err-Limit.new.output c.requires.can
    (c.in-Err-Limit.ensures.limit limit) (c.number-in-Err-Limit.ensures ∙ c.in-Err-Limit.ensures.number limit) c.push_bad-in-Err-Limit.ensures.ok

pub returns-in-Ok-Bad-clause-gathered : goal.returns-in-Ok-Bad-clause-gathered
returns-in-Ok-Bad-clause-gathered g c =
    bad_gathered c.push_bad.result _ _ c.args.group.now c.take.new.group c.line.result.now c.args.output.now c.take.new.output c.push_bad.new.output (rw c.in-Ok-Bad.field-0-is at c.in-Ok-Bad.ensures.ok)
    c.push_bad.ensures.err

pub returns-in-Ok-false-clause-gathered : goal.returns-in-Ok-false-clause-gathered
returns-in-Ok-false-clause-gathered g c = err_fact c.push_end.result _ _ c.push_end.ensures.err (λ same was k. same)

pub returns-in-Err-Limit-clause-gathered : goal.returns-in-Err-Limit-clause-gathered
returns-in-Err-Limit-clause-gathered g c = err_fact c.push_bad-in-Err-Limit.result _ _ c.push_bad-in-Err-Limit.ensures.err (λ same was k. same)
