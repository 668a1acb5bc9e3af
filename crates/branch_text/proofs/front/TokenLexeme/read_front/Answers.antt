use Rattle.std.proofs.Common.{sym}
use Rattle.branch_text.specs.BranchTokens.{token_of}
use Rattle.branch_text.proofs.TokenPrefixLaws.{mark_is_prefix}
use Rattle.branch_text.proofs.front.TokenLexeme.read_front.Goals as goal

pub returns-in-Some-clause-ok : goal.returns-in-Some-clause-ok
returns-in-Some-clause-ok c = mark_is_prefix c.args.text.now (token_of c.in-Some.found.0) c.in-Some.found.1.now (sym c.in-Some.ensures)
