use Rattle.std.proofs.Common.{refl, ap, Err}
use Rattle.index_file.proofs.reading.take_line.Goals as goal

pub returns-in-Ok-clause-taken : goal.returns-in-Ok-clause-taken
returns-in-Ok-clause-taken c = (refl, c.in-Ok.ensures.taken)

pub returns-in-Err-Syntax-clause-refused : goal.returns-in-Err-Syntax-clause-refused
returns-in-Err-Syntax-clause-refused c = (refl, c.in-Err-Syntax.ensures.wrong (ap Err c.in-Err-Syntax.field-0-is))

pub returns-in-Err-Limit-clause-refused : goal.returns-in-Err-Limit-clause-refused
returns-in-Err-Limit-clause-refused c = (refl, c.in-Err-Limit.ensures.over (ap Err c.in-Err-Limit.field-0-is))
