use Rattle.std.proofs.Common.{◌++◌, [], ◌∷◌, arith}
use Rattle.std.specs.Prelude.{string_bytes, codes}
use Rattle.branch_spec.specs.Spelling.{axis_text}
use Rattle.branch_expr.specs.Axes.{axis_of}
use Rattle.branch_expr.specs.QueryTrees.{test_of, preds_of, step_of, chain_of, cond_of, and_from, and_of, or_from}
use Rattle.branch_text.specs.BranchTexts.{test_text, step_text, preds_text, or_text, and_text, cond_text, chain_text}
use Rattle.branch_text.proofs.Canon.{preds_text_more, chain_text_more, and_text_more, or_text_more, written}
use Rattle.branch_text.proofs.writing.+write.Goals as goal

pub write_step-loop-j-preserved : goal.write_step-loop-j-preserved
write_step-loop-j-preserved t c =
    written (λ ps. preds_text (preds_of ps)) (λ o. 91 ∷ (or_text o ++ 93 ∷ [])) preds_text_more (string_bytes c.args.out.now) (test_text (test_of c.args.step.now.test)) (string_bytes c.loop-j.out) (string_bytes c.write_pred.new.out)
    c.args.step.now.preds.items c.loop-j.j c.index.result.now (omega arith) c.index.ensures c.loop-j.invariant c.in_ok-write_pred.ensures

pub write_rel-loop-j-preserved : goal.write_rel-loop-j-preserved
write_rel-loop-j-preserved t c =
    written (λ hs. chain_text (chain_of hs)) (λ h. axis_text (axis_of h.axis) ++ step_text (step_of h.step)) chain_text_more (string_bytes c.args.out.now)
    (axis_text (axis_of c.args.rel.now.first.axis) ++ step_text (step_of c.args.rel.now.first.step)) (string_bytes c.loop-j.out) (string_bytes c.write_hop-in-loop-j.new.out)
    c.args.rel.now.rest.items c.loop-j.j c.index.result.now (omega arith) c.index.ensures c.loop-j.invariant c.in_ok-write_hop-2.ensures

pub write_and-loop-j-preserved : goal.write_and-loop-j-preserved
write_and-loop-j-preserved t c =
    let first = cond_of c.args.and.now.first in
    written (λ ds. and_text (and_from first ds)) (λ d. codes " and " ++ cond_text (cond_of d)) (and_text_more first) (string_bytes c.args.out.now) [] (string_bytes c.loop-j.out) (string_bytes c.write_further_cond.new.out)
    c.args.and.now.more.items c.loop-j.j c.index.result.now (omega arith) c.index.ensures c.loop-j.invariant c.in_ok-write_further_cond.ensures

pub write_or-loop-j-preserved : goal.write_or-loop-j-preserved
write_or-loop-j-preserved t c =
    let first = and_of c.or.inside.first in
    written (λ bs. or_text (or_from first bs)) (λ b. codes " or " ++ and_text (and_of b)) (or_text_more first) (string_bytes c.args.out.now) [] (string_bytes c.loop-j.out) (string_bytes c.write_further_and.new.out)
    c.or.inside.more.items c.loop-j.j c.index.result.now (omega arith) c.index.ensures c.loop-j.invariant c.in_ok-write_further_and.ensures
