use Rattle.std.proofs.Common.{ap, Err}
use Rattle.script_read.proofs.commands.parse_branch.Goals as goal

pub returns-in-Err-Syntax-clause-bad : goal.returns-in-Err-Syntax-clause-bad
returns-in-Err-Syntax-clause-bad c i = c.in-Err-Syntax.ensures.syntax (ap Err c.in-Err-Syntax.field-0-is)
