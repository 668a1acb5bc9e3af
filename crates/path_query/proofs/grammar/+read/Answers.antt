use Rattle.std.proofs.Common.{◌≡◌, ◌∷◌, ◌∙◌, sym, ap, Err, arith}
use Rattle.std.proofs.lemmas.Result.{err_from_is_err_and}
use Rattle.path_spec.specs.Tokens.{onto, seq_onto, bar, sep_token}
use Rattle.path_expr.specs.ExprTrees.{sep_of, item_of, seq_of, seq_from, expr_from}
use Rattle.path_query.specs.declared.read_error.ReadError.TheVariants.{Syntax}
use Rattle.path_query.specs.PathTokens.{seen}
use Rattle.path_query.proofs.GrammarLaws.{expr_more, seq_more, expr_peel, expr_begins, seq_peel, seq_begins, item_begins, seq_ends, none_begins, other_token, inside_of, unclosed}
use Rattle.path_query.proofs.grammar.+read.Goals as goal

pub read_atom-returns-in_default-clause-syntax : goal.read_atom-returns-in_default-clause-syntax
read_atom-returns-in_default-clause-syntax t c e a r k = none_begins (seen c.args.left.now) a r c.in_default.ensures.none k

pub read_atom-returns-in_err-expr-in-Open-clause-syntax : goal.read_atom-returns-in_err-expr-in-Open-clause-syntax
read_atom-returns-in_err-expr-in-Open-clause-syntax t c e a r k =
    let p = err_from_is_err_and c.from_residual-in_err-expr-in-Open.result c.from_residual-in_err-expr-in-Open.ensures.1 in
    let was : Err c.in_err-expr-in-Open.field-0.0 ≡ Err Syntax = cc (p.1, p.2, e) in
    let f = inside_of (seen c.args.left.now) c.in-Some.token.now (seen c.in-Some.rest.now) a r c.in-Some.ensures.some c.in-Open.is k in
    c.in_err-expr-in-Open.ensures.syntax was f.0 _ tt f.1

pub read_atom-returns-in_default-after_close-clause-syntax : goal.read_atom-returns-in_default-after_close-clause-syntax
read_atom-returns-in_default-after_close-clause-syntax t c e a r k =
    let f = inside_of (seen c.args.left.now) c.in-Some.token.now (seen c.in-Some.rest.now) a r c.in-Some.ensures.some c.in-Open.is k in
    unclosed (seen c.in-Some.rest.now) c.in_ok-expr-in-Open.expr f.0 (seen c.in_ok-expr-in-Open.inside.now) r c.in_ok-expr-in-Open.ensures.ok c.in_ok-expr-in-Open.ensures.ends c.in_default-after_close.ensures.none f.1

pub read_atom-returns-in_default-token-clause-syntax : goal.read_atom-returns-in_default-token-clause-syntax
read_atom-returns-in_default-token-clause-syntax t c e a r k =
    other_token (seen c.args.left.now) c.in-Some.token.now (seen c.in-Some.rest.now) a r c.in-Some.ensures.some c.in_default-token.not-Label c.in_default-token.not-Any c.in_default-token.not-Open k

pub read_expr-returns-in_err-first-clause-syntax : goal.read_expr-returns-in_err-first-clause-syntax
read_expr-returns-in_err-first-clause-syntax t c e x r ends k =
    let p = err_from_is_err_and c.from_residual.result c.from_residual.ensures.1 in
    let was : Err c.in_err-first.field-0.0 ≡ Err Syntax = cc (p.1, p.2, e) in
    let b = expr_begins x r ends in
    c.in_err-first.ensures.syntax was b.0 b.1 b.2 (k ∙ b.3)

pub read_expr-returns-in_err-seq-clause-syntax : goal.read_expr-returns-in_err-seq-clause-syntax
read_expr-returns-in_err-seq-clause-syntax t c e x r ends k =
    let p = err_from_is_err_and c.from_residual-in_err-seq.result c.from_residual-in_err-seq.ensures.1 in
    let was : Err c.in_err-seq.field-0.0 ≡ Err Syntax = cc (p.1, p.2, e) in
    let l = c.alternatives in
    let so_far = l.invariant.so_far ∙ ap (onto (expr_from (seq_of c.in_ok-first.first) l.more.items)) c.in-Some.ensures.some in
    let f = expr_peel (seq_of c.in_ok-first.first) l.more.items (seen c.in-Some.after.now) x r ends (sym so_far ∙ k) in
    let b = expr_begins f.0 r ends in
    c.in_err-seq.ensures.syntax was b.0 b.1 b.2 (f.1 ∙ b.3)

pub read_expr-alternatives-preserved : goal.read_expr-alternatives-preserved
read_expr-alternatives-preserved t c =
    let l = c.alternatives in
    let s = seq_of c.in_ok-first.first in
    let so_far = l.invariant.so_far ∙ ap (onto (expr_from s l.more.items)) c.in-Some.ensures.some in
    let l1 = l.invariant.shorter in
    let l2 = c.in_ok-seq.ensures.shorter in
    let l3 = c.in-Some.ensures.shorter in
    record {
      so_far = so_far ∙ ap (λ q. onto (expr_from s l.more.items) (bar ∷ q)) c.in_ok-seq.ensures.ok
          ∙ sym (expr_more s l.more.items c.in_ok-seq.seq (seen c.in_ok-seq.next.now)) ∙ ap (λ rs. onto (expr_from s rs) (seen c.in_ok-seq.next.now)) (sym c.in_ok-push.ensures.items);
      ends = c.in_ok-seq.ensures.ends;
      shorter = omega arith;
    }

pub read_item-returns-in_err-atom-clause-syntax : goal.read_item-returns-in_err-atom-clause-syntax
read_item-returns-in_err-atom-clause-syntax t c e i r ends k =
    let p = err_from_is_err_and c.from_residual.result c.from_residual.ensures.1 in
    let was : Err c.in_err-atom.field-0.0 ≡ Err Syntax = cc (p.1, p.2, e) in
    let b = item_begins i r in
    c.in_err-atom.ensures.syntax was b.0 b.1 (k ∙ b.2)

pub read_seq-returns-in_err-first-clause-syntax : goal.read_seq-returns-in_err-first-clause-syntax
read_seq-returns-in_err-first-clause-syntax t c e s r ends k =
    let p = err_from_is_err_and c.from_residual.result c.from_residual.ensures.1 in
    let was : Err c.in_err-first.field-0.0 ≡ Err Syntax = cc (p.1, p.2, e) in
    let b = seq_begins s r ends in
    c.in_err-first.ensures.syntax was b.0 b.1 b.2 (k ∙ b.3)

pub read_seq-returns-in_err-item-clause-syntax : goal.read_seq-returns-in_err-item-clause-syntax
read_seq-returns-in_err-item-clause-syntax t c e s r ends k =
    let p = err_from_is_err_and c.from_residual-in_err-item.result c.from_residual-in_err-item.ensures.1 in
    let was : Err c.in_err-item.field-0.0 ≡ Err Syntax = cc (p.1, p.2, e) in
    let l = c.steps in
    let so_far = l.invariant.so_far ∙ ap (seq_onto (seq_from (item_of c.in_ok-first.first) l.rest.items)) c.in-Some.ensures.some in
    let f = seq_peel (item_of c.in_ok-first.first) l.rest.items (sep_of c.in-Some.sep) (seen c.in-Some.after.now) s r ends (sym so_far ∙ k) in
    let b = seq_begins f.0 r ends in
    c.in_err-item.ensures.syntax was b.0 b.1 b.2 (f.1 ∙ b.3)

pub read_seq-steps-preserved : goal.read_seq-steps-preserved
read_seq-steps-preserved t c =
    let l = c.steps in
    let i = item_of c.in_ok-first.first in
    let so_far = l.invariant.so_far ∙ ap (seq_onto (seq_from i l.rest.items)) c.in-Some.ensures.some in
    let l1 = l.invariant.shorter in
    let l2 = c.in_ok-item.ensures.shorter in
    let l3 = c.in-Some.ensures.shorter in
    record {
      so_far = so_far ∙ ap (λ q. seq_onto (seq_from i l.rest.items) (sep_token (sep_of c.in-Some.sep) ∷ q)) c.in_ok-item.ensures.ok
          ∙ sym (seq_more i l.rest.items _ (seen c.in_ok-item.next.now)) ∙ ap (λ rs. seq_onto (seq_from i rs) (seen c.in_ok-item.next.now)) (sym c.in_ok-push.ensures.items);
      ends = c.in_ok-item.ensures.ends;
      shorter = omega arith;
    }

pub read_seq-returns-clause-ends : goal.read_seq-returns-clause-ends
read_seq-returns-clause-ends t c = seq_ends (seen c.steps.behind.now) c.steps.invariant.ends c.in_default.ensures.none
