use Rattle.std.proofs.Common.{◌≡◌, ◌++◌, take}
use Rattle.std.specs.Prelude.{string_bytes}
use Rattle.branch_spec.specs.Spelling.{axis_text}
use Rattle.branch_expr.specs.Axes.{axis_of}
use Rattle.branch_expr.specs.QueryTrees.{test_of, preds_of, step_of, chain_of, cond_of, and_from, and_of, or_from}
use Rattle.branch_text.specs.BranchTexts.{test_text, step_text, preds_text, or_text, and_text, chain_text}
use Rattle.branch_text.proofs.writing.+write.Given as goal

abbrev pub invariant-write_step-loop-j : goal.invariant-write_step-loop-j
invariant-write_step-loop-j l = string_bytes l.out ≡ string_bytes l.fn.out ++ (test_text (test_of l.step.test) ++ preds_text (preds_of (take l.j l.step.preds.items)))

abbrev pub invariant-write_rel-loop-j : goal.invariant-write_rel-loop-j
invariant-write_rel-loop-j l = string_bytes l.out ≡ string_bytes l.fn.out ++ ((axis_text (axis_of l.rel.first.axis) ++ step_text (step_of l.rel.first.step)) ++ chain_text (chain_of (take l.j l.rel.rest.items)))

abbrev pub invariant-write_and-loop-j : goal.invariant-write_and-loop-j
invariant-write_and-loop-j l = string_bytes l.out ≡ string_bytes l.fn.out ++ and_text (and_from (cond_of l.and.first) (take l.j l.and.more.items))

abbrev pub invariant-write_or-loop-j : goal.invariant-write_or-loop-j
invariant-write_or-loop-j l = string_bytes l.out ≡ string_bytes l.fn.out ++ or_text (or_from (and_of l.or-inside.first) (take l.j l.or-inside.more.items))
