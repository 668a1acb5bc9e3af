use Rattle.quotient_draft.proofs.changed.note_both.Goals as goal

pub returns-in-Err-clause-from_err : goal.returns-in-Err-clause-from_err
returns-in-Err-clause-from_err c = c.forget.ensures c.args.from.now.entries c.args.b c.in_ok-note.ensures.ok
