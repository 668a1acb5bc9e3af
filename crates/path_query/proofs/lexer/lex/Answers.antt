use Rattle.std.proofs.Common.{◌≡◌, ◌<◌, ◌∙◌, sym, ap, subst, Err, length, arith, map}
use Rattle.std.proofs.lemmas.Bool.Decides.{nat_tests}
use Rattle.std.proofs.lemmas.List.{map_push, nil_from_length}
use Rattle.std.proofs.lemmas.Result.{err_from_is_err_and}
use Rattle.path_query.specs.declared.read_error.ReadError.TheVariants.{Syntax}
use Rattle.path_query.proofs.LexerLaws.{Lexed, past_shorter, prefix_shorter, tokens_one, lexed_none, lexed_more, lexed_bad, lexed_all}
use Rattle.path_query.proofs.lexer.lex.Goals as goal

pub tokens-init : goal.tokens-init
tokens-init g c =
    subst (λ ts. Lexed g.T.Lexeme.SpellsTokens c.args.text.now c.skip_blanks-left.result.now (map g.T.Lexeme.seen ts)) (sym c.new-all.ensures.items)
    (lexed_none c.requires.language c.args.text.now c.skip_blanks-left.result.now c.skip_blanks-left.ensures)

pub returns-in_err-token-clause-syntax : goal.returns-in_err-token-clause-syntax
returns-in_err-token-clause-syntax g c e us h =
    let p = err_from_is_err_and c.from_residual.result c.from_residual.ensures.1 in
    let was : Err c.in_err-token.field-0.0 ≡ Err Syntax = cc (p.1, p.2, e) in
    let left = c.tokens.left.now in
    let some : 0 < length left = grind (arith, nat_tests, c.is_empty.ensures, c.tokens-test.true) in
    lexed_bad c.requires.language c.args.text.now left (map g.T.Lexeme.seen c.tokens.all.items) some (c.in_err-token.ensures.syntax was) c.tokens.invariant us h

pub tokens-smaller : goal.tokens-smaller
tokens-smaller g c =
    let shorter = prefix_shorter c.requires.language c.tokens.left.now (g.T.Lexeme.seen c.in_ok-token.token) c.in_ok-token.rest.now c.in_ok-token.ensures.ok in
    let past = past_shorter c.in_ok-token.rest.now in
    omega (arith, shorter, past, ap length c.skip_blanks-left-in-tokens.ensures)

pub tokens-preserved : goal.tokens-preserved
tokens-preserved g c =
    let left = c.tokens.left.now in
    let some : 0 < length left = grind (arith, nat_tests, c.is_empty.ensures, c.tokens-test.true) in
    let grown = ap (map g.T.Lexeme.seen) c.in_ok-push.ensures.items ∙ map_push g.T.Lexeme.seen c.tokens.all.items c.in_ok-token.token in
    subst (λ ts. Lexed g.T.Lexeme.SpellsTokens c.args.text.now c.skip_blanks-left-in-tokens.result.now ts) (sym grown)
    (lexed_more c.requires.language c.args.text.now left c.skip_blanks-left-in-tokens.result.now c.in_ok-token.rest.now (map g.T.Lexeme.seen c.tokens.all.items)
    (g.T.Lexeme.seen c.in_ok-token.token) some c.in_ok-token.ensures.ok c.skip_blanks-left-in-tokens.ensures c.tokens.invariant)

pub returns-clause-ok : goal.returns-clause-ok
returns-clause-ok g c =
    let none : length c.tokens.left.now ≡ 0 = grind (arith, nat_tests, c.is_empty.ensures, c.tokens-test.false) in
    lexed_all c.requires.language c.args.text.now c.tokens.left.now (map g.T.Lexeme.seen c.tokens.all.items) (nil_from_length c.tokens.left.now none) c.tokens.invariant

pub returns-clause-only : goal.returns-clause-only
returns-clause-only g c us h = tokens_one c.requires.language us (map g.T.Lexeme.seen c.tokens.all.items) c.args.text.now h (returns-clause-ok g c)
