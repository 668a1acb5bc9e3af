use Rattle.path_expr.specs.ExprTrees.{sign_of}
use Rattle.path_query.specs.PathTokens.{seen}
use Rattle.path_query.proofs.GrammarLaws.{sign_only, no_sign_only}
use Rattle.path_query.proofs.grammar.split_sign.Goals as goal

pub returns-in-Some-clause-only : goal.returns-in-Some-clause-only
returns-in-Some-clause-only c a i r ends k = sign_only (seen c.args.left.now) (sign_of c.in-Some.sign) (seen c.in-Some.rest.now) a i r c.in-Some.ensures.some ends k

pub returns-in-None-clause-only : goal.returns-in-None-clause-only
returns-in-None-clause-only c a i r ends k = no_sign_only (seen c.args.left.now) a i r c.in-None.ensures.none ends k
