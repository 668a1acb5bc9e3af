use Rattle.std.proofs.Common.{◌≡◌, ◌∷◌, ◌∙◌, sym, ap, subst, Err, arith, true≢false, rules}
use Rattle.std.proofs.lemmas.Result.{err_from_is_err_and}
use Rattle.branch_spec.specs.Tokens.{axis, left, right, opening, closing, and_word, or_word, test_onto, preds_onto, or_onto, and_onto, chain_onto, EndsStep}
use Rattle.branch_spec.proofs.OneQuery.{chain_ends, one_chain}
use Rattle.branch_spec.specs.Trees.{go}
use Rattle.branch_expr.specs.Axes.{axis_of}
use Rattle.branch_expr.specs.QueryTrees.{test_of, preds_of, step_of, chain_of, cond_of, and_from, and_of, or_from}
use Rattle.path_query.specs.declared.read_error.ReadError.TheVariants.{Syntax}
use Rattle.branch_text.specs.BranchTokens.{seen}
use Rattle.branch_text.proofs.GrammarLaws as readings
use Rattle.branch_text.proofs.grammar.+read.Goals as goal

pub read_pred-returns-in_err-or-clause-syntax : goal.read_pred-returns-in_err-or-clause-syntax
read_pred-returns-in_err-or-clause-syntax t c e o r k =
    let p = err_from_is_err_and c.from_residual.result c.from_residual.ensures.1 in
    let was : Err c.in_err-or.field-0.0 ≡ Err Syntax = cc (p.1, p.2, e) in
    c.in_err-or.ensures.syntax was o _ tt k

pub read_pred-returns-in_default-clause-syntax : goal.read_pred-returns-in_default-clause-syntax
read_pred-returns-in_default-clause-syntax t c e o r k =
    readings.unclosed (seen c.args.left.now) c.in_ok-or.or o (seen c.in_ok-or.inside.now) r right tt c.in_ok-or.ensures.ok c.in_ok-or.ensures.ends c.in_default.ensures.none k

pub read_step-returns-in_err-test-clause-syntax : goal.read_step-returns-in_err-test-clause-syntax
read_step-returns-in_err-test-clause-syntax t c e s r ends k =
    let p = err_from_is_err_and c.from_residual.result c.from_residual.ensures.1 in
    let was : Err c.in_err-test.field-0.0 ≡ Err Syntax = cc (p.1, p.2, e) in
    let b = readings.step_begins s r in
    c.in_err-test.ensures.syntax was b.0 b.1 (k ∙ b.2)

pub read_step-returns-in_err-pred-clause-syntax : goal.read_step-returns-in_err-pred-clause-syntax
read_step-returns-in_err-pred-clause-syntax t c e s r ends k =
    let p = err_from_is_err_and c.from_residual-in_err-pred.result c.from_residual-in_err-pred.ensures.1 in
    let was : Err c.in_err-pred.field-0.0 ≡ Err Syntax = cc (p.1, p.2, e) in
    let l = c.predicates in
    let u = test_of l.test-1 in
    let so_far = l.invariant.so_far ∙ ap (λ q. test_onto u (preds_onto (preds_of l.preds.items) q)) c.in-Some.ensures.some in
    let f = readings.step_peel u l.preds.items (seen c.in-Some.start.now) s r ends (sym so_far ∙ k) in
    c.in_err-pred.ensures.syntax was f.0 (preds_onto f.1 r) f.2

pub read_step-predicates-preserved : goal.read_step-predicates-preserved
read_step-predicates-preserved t c =
    let l = c.predicates in
    let u = test_of l.test-1 in
    let so_far = l.invariant.so_far ∙ ap (λ q. test_onto u (preds_onto (preds_of l.preds.items) q)) c.in-Some.ensures.some in
    let l1 = l.invariant.shorter in
    let l2 = c.in_ok-pred.ensures.shorter in
    let l3 = c.in-Some.ensures.shorter in
    record {
      so_far = so_far ∙ ap (λ q. test_onto u (preds_onto (preds_of l.preds.items) (left ∷ q))) c.in_ok-pred.ensures.ok
          ∙ ap (test_onto u) (sym (readings.preds_more l.preds.items c.in_ok-pred.pred (seen c.in_ok-pred.next.now)))
          ∙ ap (λ ps. test_onto u (preds_onto (preds_of ps) (seen c.in_ok-pred.next.now))) (sym c.in_ok-push.ensures.items);
      shorter = omega arith;
    }

pub read_hops-returns-in_err-step-clause-syntax : goal.read_hops-returns-in_err-step-clause-syntax
read_hops-returns-in_err-step-clause-syntax t c e ch r ends k =
    let p = err_from_is_err_and c.from_residual.result c.from_residual.ensures.1 in
    let was : Err c.in_err-step.field-0.0 ≡ Err Syntax = cc (p.1, p.2, e) in
    let l = c.steps in
    let so_far = l.invariant.so_far ∙ ap (chain_onto (chain_of l.hops.items)) c.in-Some.ensures.some in
    let f = readings.chain_peel l.hops.items (axis_of c.in-Some.axis) (seen c.in-Some.after.now) ch r ends (sym so_far ∙ k) in
    c.in_err-step.ensures.syntax was f.0 (chain_onto f.1 r) (chain_ends f.1 r ends) f.2

pub read_hops-steps-preserved : goal.read_hops-steps-preserved
read_hops-steps-preserved t c =
    let l = c.steps in
    let so_far = l.invariant.so_far ∙ ap (chain_onto (chain_of l.hops.items)) c.in-Some.ensures.some in
    let l1 = l.invariant.shorter in
    let l2 = c.in_ok-step.ensures.shorter in
    let l3 = c.in-Some.ensures.shorter in
    record {
      so_far = so_far ∙ ap (λ q. chain_onto (chain_of l.hops.items) (axis (axis_of c.in-Some.axis) ∷ q)) c.in_ok-step.ensures.ok
          ∙ sym (readings.chain_more l.hops.items _ (seen c.in_ok-step.next.now))
          ∙ ap (λ hs. chain_onto (chain_of hs) (seen c.in_ok-step.next.now)) (sym c.in_ok-push.ensures.items);
      ends = c.in_ok-step.ensures.ends;
      shorter = omega arith;
    }

pub read_hops-returns-clause-ends : goal.read_hops-returns-clause-ends
read_hops-returns-clause-ends t c = readings.chain_ends_here (seen c.steps.behind.now) c.steps.invariant.ends c.in_default.ensures.none

pub read_rel-returns-in_err-step-clause-syntax : goal.read_rel-returns-in_err-step-clause-syntax
read_rel-returns-in_err-step-clause-syntax t c e a s ch r ends k =
    let p = err_from_is_err_and c.from_residual.result c.from_residual.ensures.1 in
    let was : Err c.in_err-step.field-0.0 ≡ Err Syntax = cc (p.1, p.2, e) in
    let f = readings.rel_step (seen c.args.left.now) (seen c.in-Some.after.now) (axis_of c.in-Some.axis) a s ch r c.in-Some.ensures.some k in
    c.in_err-step.ensures.syntax was s (chain_onto ch r) (chain_ends ch r ends) f

pub read_rel-returns-in_err-rest-clause-syntax : goal.read_rel-returns-in_err-rest-clause-syntax
read_rel-returns-in_err-rest-clause-syntax t c e a s ch r ends k =
    let p = err_from_is_err_and c.from_residual-in_err-rest.result c.from_residual-in_err-rest.ensures.1 in
    let was : Err c.in_err-rest.field-0.0 ≡ Err Syntax = cc (p.1, p.2, e) in
    let f = readings.rel_rest (seen c.args.left.now) (seen c.in-Some.after.now) (seen c.in_ok-step.behind.now) (axis_of c.in-Some.axis) a (step_of c.in_ok-step.step) s ch r
    c.in-Some.ensures.some c.in_ok-step.ensures.ok c.in_ok-step.ensures.ends ends k in
    c.in_err-rest.ensures.syntax was ch r ends f

pub read_group-returns-in_err-or-clause-syntax : goal.read_group-returns-in_err-or-clause-syntax
read_group-returns-in_err-or-clause-syntax t c e o r k =
    let p = err_from_is_err_and c.from_residual.result c.from_residual.ensures.1 in
    let was : Err c.in_err-or.field-0.0 ≡ Err Syntax = cc (p.1, p.2, e) in
    c.in_err-or.ensures.syntax was o (closing ∷ r) tt (readings.tail_one (seen c.args.left.now) opening (seen c.in-Some.start.now) (or_onto o (closing ∷ r)) c.in-Some.ensures.some k)

pub read_group-returns-in_default-after-clause-syntax : goal.read_group-returns-in_default-after-clause-syntax
read_group-returns-in_default-after-clause-syntax t c e o r k =
    let inner = readings.tail_one (seen c.args.left.now) opening (seen c.in-Some.start.now) (or_onto o (closing ∷ r)) c.in-Some.ensures.some k in
    readings.unclosed (seen c.in-Some.start.now) c.in_ok-or.or o (seen c.in_ok-or.inside.now) r closing tt c.in_ok-or.ensures.ok c.in_ok-or.ensures.ends c.in_default-after.ensures.none inner

pub read_not-returns-in_err-or-clause-syntax : goal.read_not-returns-in_err-or-clause-syntax
read_not-returns-in_err-or-clause-syntax t c e x r k =
    let p = err_from_is_err_and c.from_residual.result c.from_residual.ensures.1 in
    let was : Err c.in_err-or.field-0.0 ≡ Err Syntax = cc (p.1, p.2, e) in
    let f = readings.not_inside (seen c.args.left.now) x r k in
    c.in_err-or.ensures.syntax was f.0 r f.1

pub read_not-returns-clause-only : goal.read_not-returns-clause-only
read_not-returns-clause-only t c x r k =
    let f = readings.not_inside (seen c.args.left.now) x r k in
    readings.group_only c.in_ok-or.or f.0 (seen c.in_ok-or.after.now) r (readings.tail_one (seen c.args.left.now) opening _ _ c.in_ok-or.ensures.ok f.1)

pub read_parentheses-returns-in_err-or-clause-syntax : goal.read_parentheses-returns-in_err-or-clause-syntax
read_parentheses-returns-in_err-or-clause-syntax t c e x r k =
    let p = err_from_is_err_and c.from_residual.result c.from_residual.ensures.1 in
    let was : Err c.in_err-or.field-0.0 ≡ Err Syntax = cc (p.1, p.2, e) in
    let f = readings.group_inside c.requires.0 x r (sym c.requires.1 ∙ k) in
    c.in_err-or.ensures.syntax was f.0 r (c.requires.1 ∙ ap (λ q. opening ∷ q) f.1)

pub read_parentheses-returns-clause-only : goal.read_parentheses-returns-clause-only
read_parentheses-returns-clause-only t c x r k =
    let f = readings.group_inside c.requires.0 x r (sym c.requires.1 ∙ k) in
    readings.group_only c.in_ok-or.or f.0 (seen c.in_ok-or.after.now) r
    (readings.tail_one (seen c.args.left.now) opening _ _ c.in_ok-or.ensures.ok (c.requires.1 ∙ ap (λ q. opening ∷ q) f.1))

pub read_steps-returns-in_err-rel-clause-syntax : goal.read_steps-returns-in_err-rel-clause-syntax
read_steps-returns-in_err-rel-clause-syntax t c e x r ends k =
    let p = err_from_is_err_and c.from_residual.result c.from_residual.ensures.1 in
    let was : Err c.in_err-rel.field-0.0 ≡ Err Syntax = cc (p.1, p.2, e) in
    let f = readings.rel_inside c.requires.0 c.requires.1 x r (sym c.requires.2 ∙ k) in
    c.in_err-rel.ensures.syntax was f.0 f.1 f.2 r ends (c.requires.2 ∙ f.3)

pub read_steps-returns-clause-only : goal.read_steps-returns-clause-only
read_steps-returns-clause-only t c x r ends k =
    let f = readings.rel_inside c.requires.0 c.requires.1 x r (sym c.requires.2 ∙ k) in
    let got = chain_of (c.in_ok-rel.rel.first ∷ c.in_ok-rel.rel.rest.items) in
    sym (one_chain got (go f.0 f.1 f.2) (seen c.in_ok-rel.after.now) r (sym c.in_ok-rel.ensures.ok ∙ (c.requires.2 ∙ f.3)) c.in_ok-rel.ensures.ends ends).1

pub read_and-returns-in_err-first-clause-syntax : goal.read_and-returns-in_err-first-clause-syntax
read_and-returns-in_err-first-clause-syntax t c e x r ends k =
    let p = err_from_is_err_and c.from_residual.result c.from_residual.ensures.1 in
    let was : Err c.in_err-first.field-0.0 ≡ Err Syntax = cc (p.1, p.2, e) in
    let b = readings.and_begins x r ends in
    c.in_err-first.ensures.syntax was b.0 b.1 b.2 (k ∙ b.3)

pub read_and-returns-in_err-cond-clause-syntax : goal.read_and-returns-in_err-cond-clause-syntax
read_and-returns-in_err-cond-clause-syntax t c e x r ends k =
    let p = err_from_is_err_and c.from_residual-in_err-cond.result c.from_residual-in_err-cond.ensures.1 in
    let was : Err c.in_err-cond.field-0.0 ≡ Err Syntax = cc (p.1, p.2, e) in
    let l = c.conditions in
    let first = cond_of l.first-1 in
    let so_far = l.invariant.so_far ∙ ap (and_onto (and_from first l.more.items)) c.in-Some.ensures.some in
    let f = readings.and_peel first l.more.items (seen c.in-Some.start.now) x r ends (sym so_far ∙ k) in
    let b = readings.and_begins f.0 r ends in
    c.in_err-cond.ensures.syntax was b.0 b.1 b.2 (f.1 ∙ b.3)

pub read_and-conditions-preserved : goal.read_and-conditions-preserved
read_and-conditions-preserved t c =
    let l = c.conditions in
    let first = cond_of l.first-1 in
    let so_far = l.invariant.so_far ∙ ap (and_onto (and_from first l.more.items)) c.in-Some.ensures.some in
    let l1 = l.invariant.shorter in
    let l2 = c.in_ok-cond.ensures.shorter in
    let l3 = c.in-Some.ensures.shorter in
    record {
      so_far = so_far ∙ ap (λ q. and_onto (and_from first l.more.items) (and_word ∷ q)) c.in_ok-cond.ensures.ok
          ∙ sym (readings.and_more first l.more.items c.in_ok-cond.cond (seen c.in_ok-cond.next.now))
          ∙ ap (λ ds. and_onto (and_from first ds) (seen c.in_ok-cond.next.now)) (sym c.in_ok-push.ensures.items);
      ends = c.in_ok-cond.ensures.ends;
      shorter = omega arith;
    }

pub read_or-returns-in_err-first-clause-syntax : goal.read_or-returns-in_err-first-clause-syntax
read_or-returns-in_err-first-clause-syntax t c e x r ends k =
    let p = err_from_is_err_and c.from_residual.result c.from_residual.ensures.1 in
    let was : Err c.in_err-first.field-0.0 ≡ Err Syntax = cc (p.1, p.2, e) in
    let b = readings.or_begins x r ends in
    c.in_err-first.ensures.syntax was b.0 b.1 b.2 (k ∙ b.3)

pub read_or-returns-in_err-and-clause-syntax : goal.read_or-returns-in_err-and-clause-syntax
read_or-returns-in_err-and-clause-syntax t c e x r ends k =
    let p = err_from_is_err_and c.from_residual-in_err-and.result c.from_residual-in_err-and.ensures.1 in
    let was : Err c.in_err-and.field-0.0 ≡ Err Syntax = cc (p.1, p.2, e) in
    let l = c.alternatives in
    let first = and_of c.in_ok-first.first in
    let so_far = l.invariant.so_far ∙ ap (or_onto (or_from first l.more.items)) c.in-Some.ensures.some in
    let f = readings.or_peel first l.more.items (seen c.in-Some.start.now) x r ends (sym so_far ∙ k) in
    let b = readings.or_begins f.0 r ends in
    c.in_err-and.ensures.syntax was b.0 b.1 b.2 (f.1 ∙ b.3)

pub read_or-alternatives-preserved : goal.read_or-alternatives-preserved
read_or-alternatives-preserved t c =
    let l = c.alternatives in
    let first = and_of c.in_ok-first.first in
    let so_far = l.invariant.so_far ∙ ap (or_onto (or_from first l.more.items)) c.in-Some.ensures.some in
    let l1 = l.invariant.shorter in
    let l2 = c.in_ok-and.ensures.shorter in
    let l3 = c.in-Some.ensures.shorter in
    record {
      so_far = so_far ∙ ap (λ q. or_onto (or_from first l.more.items) (or_word ∷ q)) c.in_ok-and.ensures.ok
          ∙ sym (readings.or_more first l.more.items c.in_ok-and.and (seen c.in_ok-and.next.now))
          ∙ ap (λ bs. or_onto (or_from first bs) (seen c.in_ok-and.next.now)) (sym c.in_ok-push.ensures.items);
      ends = c.in_ok-and.ensures.ends;
      shorter = omega arith;
    }

pub read_unit-returns-clause-syntax : goal.read_unit-returns-clause-syntax
read_unit-returns-clause-syntax t c e x r ends k =
    readings.no_cond c.args.left.now x r c.in_default.ensures.none (search rules) (search rules) k

pub read_step-returns-clause-syntax : goal.read_step-returns-clause-syntax
read_step-returns-clause-syntax t c e s r ends k =
    let l = c.predicates in
    let u = test_of l.test-1 in
    let same = readings.step_done u l.preds.items (seen l.behind.now) s r c.in_default.ensures.none ends (sym l.invariant.so_far ∙ k) in
    true≢false (sym (c.ends_step.ensures.1 (subst EndsStep (sym same) ends)) ∙ c.if-ends_step.false)
