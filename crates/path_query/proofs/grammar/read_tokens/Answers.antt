use Rattle.std.proofs.Common.{◌≡◌, length, arith}
use Rattle.std.proofs.lemmas.Bool.Decides.{nat_tests}
use Rattle.path_query.specs.PathTokens.{seen}
use Rattle.path_query.proofs.GrammarLaws.{all_read}
use Rattle.path_query.proofs.grammar.read_tokens.Goals as goal

pub returns-else-is_empty-clause-syntax : goal.returns-else-is_empty-clause-syntax
returns-else-is_empty-clause-syntax c e f k =
    let none : length c.in_ok-expr.behind.now ≡ 0 = all_read (seen c.args.all.now) c.in_ok-expr.behind.now c.in_ok-expr.expr f c.in_ok-expr.ensures.ok c.in_ok-expr.ensures.ends k in
    grind (arith, nat_tests, c.is_empty.ensures, c.if-is_empty.false, none)
