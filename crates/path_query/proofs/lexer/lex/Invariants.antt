use Rattle.std.proofs.Common.{length, map}
use Rattle.path_query.proofs.LexerLaws.{Lexed}
use Rattle.path_query.proofs.lexer.lex.Given as goal

abbrev pub invariant-tokens : goal.invariant-tokens
invariant-tokens g l = Lexed g.T.Lexeme.SpellsTokens l.text l.left (map g.T.Lexeme.seen l.all.items)

abbrev pub decreases-tokens : goal.decreases-tokens
decreases-tokens g l = length l.left
