use Rattle.std.proofs.Common.{take, drop}
use Rattle.branch_expr.specs.QueryTrees.{preds_of, chain_of, cond_of, and_from, and_of, or_from}
use Rattle.branch_spec.specs.Depths.{preds_depth, chain_depth, and_depth, or_depth}
use Rattle.branch_expr.specs.CappedDepths.{IsCappedDepth}
use Rattle.branch_expr.proofs.depths.+looks.Given as goal

abbrev pub invariant-step_depth-loop-j : goal.invariant-step_depth-loop-j
invariant-step_depth-loop-j l = IsCappedDepth (preds_depth (preds_of (take l.j l.step.preds.items))) l.depth

abbrev pub invariant-rel_depth-loop-j : goal.invariant-rel_depth-loop-j
invariant-rel_depth-loop-j l = IsCappedDepth (chain_depth (chain_of (drop l.j l.rel.rest.items))) l.depth

abbrev pub invariant-and_depth-loop-j : goal.invariant-and_depth-loop-j
invariant-and_depth-loop-j l = IsCappedDepth (and_depth (and_from (cond_of l.and.first) (take l.j l.and.more.items))) l.depth

abbrev pub invariant-or_depth-loop-j : goal.invariant-or_depth-loop-j
invariant-or_depth-loop-j l = IsCappedDepth (or_depth (or_from (and_of l.or-inside.first) (take l.j l.or-inside.more.items))) l.depth
