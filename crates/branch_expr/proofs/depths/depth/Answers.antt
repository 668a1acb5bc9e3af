use Rattle.std.proofs.Common.{◌∙◌, ap, take, arith}
use Rattle.path_expr.specs.Capped.{capped}
use Rattle.branch_expr.specs.QueryTrees.{step_of, chain_of}
use Rattle.branch_spec.specs.Depths.{step_depth, depth_from}
use Rattle.branch_expr.specs.CappedDepths.{greatest_depth}
use Rattle.branch_expr.proofs.DepthLists.{led_step}
use Rattle.branch_expr.proofs.depths.depth.Goals as goal

pub loop-j-preserved : goal.loop-j-preserved
loop-j-preserved c =
    let d = step_depth (step_of c.query.inside.first) in
    let hs = c.query.inside.rest.items in
    c.led_on-depth.ensures (depth_from d (chain_of (take c.loop-j.j hs))) c.loop-j.invariant
    ∙ ap (capped greatest_depth) (led_step d hs c.loop-j.j c.index.result.now (omega arith) c.index.ensures)
