use Rattle.std.proofs.Common.{◌≡◌, ◌∙◌, Err, length, ap, arith}
use Rattle.std.proofs.lemmas.Bool.Decides.{nat_tests}
use Rattle.std.proofs.lemmas.Result.{err_from_is_err_and}
use Rattle.branch_spec.specs.Tokens.{step_onto}
use Rattle.branch_expr.specs.QueryTrees.{step_of, chain_of}
use Rattle.path_query.specs.declared.read_error.ReadError.TheVariants.{Syntax}
use Rattle.branch_text.specs.BranchTokens.{seen}
use Rattle.branch_text.proofs.GrammarLaws.{all_read, query_begins, query_rest}
use Rattle.branch_text.proofs.grammar.read_tokens.Goals as goal

pub returns-in_err-first-clause-syntax : goal.returns-in_err-first-clause-syntax
returns-in_err-first-clause-syntax c e q k =
    let p = err_from_is_err_and c.from_residual.result c.from_residual.ensures.1 in
    let was : Err c.in_err-first.field-0.0 ≡ Err Syntax = cc (p.1, p.2, e) in
    let b = query_begins q in
    c.in_err-first.ensures.syntax was b.0 b.1 b.2 (k ∙ b.3)

pub returns-in_err-rest-clause-syntax : goal.returns-in_err-rest-clause-syntax
returns-in_err-rest-clause-syntax c e q k =
    let p = err_from_is_err_and c.from_residual-in_err-rest.result c.from_residual-in_err-rest.ensures.1 in
    let was : Err c.in_err-rest.field-0.0 ≡ Err Syntax = cc (p.1, p.2, e) in
    let f = query_rest (seen c.args.all.now) (seen c.in_ok-first.behind.now) (step_of c.in_ok-first.first) q c.in_ok-first.ensures.ok c.in_ok-first.ensures.ends k in
    c.in_err-rest.ensures.syntax was f.0 _ tt f.1

pub returns-else-is_empty-clause-syntax : goal.returns-else-is_empty-clause-syntax
returns-else-is_empty-clause-syntax c e q k =
    let read = c.in_ok-first.ensures.ok ∙ ap (step_onto (step_of c.in_ok-first.first)) c.in_ok-rest.ensures.ok in
    let none : length c.in_ok-rest.last.now ≡ 0 =
    all_read (seen c.args.all.now) (step_of c.in_ok-first.first) (chain_of c.in_ok-rest.rest.items) c.in_ok-rest.last.now q read c.in_ok-rest.ensures.ends k in
    grind (arith, nat_tests, c.is_empty.ensures, c.if-is_empty.false, none)
