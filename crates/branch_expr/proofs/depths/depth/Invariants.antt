use Rattle.std.proofs.Common.{take}
use Rattle.branch_expr.specs.QueryTrees.{step_of, chain_of}
use Rattle.branch_spec.specs.Depths.{step_depth, depth_from}
use Rattle.branch_expr.specs.CappedDepths.{IsCappedDepth}
use Rattle.branch_expr.proofs.depths.depth.Given as goal

abbrev pub invariant-loop-j : goal.invariant-loop-j
invariant-loop-j l = IsCappedDepth (depth_from (step_depth (step_of l.query-inside.first)) (chain_of (take l.j l.query-inside.rest.items))) l.depth
