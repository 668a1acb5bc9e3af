use Rattle.std.proofs.Common.{ap, Err}
use Rattle.triples_read.proofs.OneTriple.{spelled_not_empty}
use Rattle.script_read.proofs.commands.parse_triple.Goals as goal

pub returns-in-Ok-None-clause-bad : goal.returns-in-Ok-None-clause-bad
returns-in-Ok-None-clause-bad c i t s = spelled_not_empty c.args.text.now t s (rw c.in-Ok-None.field-0-is at c.in-Ok-None.ensures.none)

pub returns-in-Err-Syntax-clause-bad : goal.returns-in-Err-Syntax-clause-bad
returns-in-Err-Syntax-clause-bad c i = (c.in-Err-Syntax.ensures.syntax (ap Err c.in-Err-Syntax.field-0-is)).1
