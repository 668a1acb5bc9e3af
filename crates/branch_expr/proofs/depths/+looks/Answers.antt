use Rattle.std.proofs.Common.{◌∙◌, ap, sym, take, drop, arith}
use Rattle.path_spec.specs.Longest.{greater}
use Rattle.path_expr.specs.Capped.{capped}
use Rattle.branch_expr.proofs.SetLaws.{drop_back, drop_none}
use Rattle.branch_expr.specs.QueryTrees.{preds_of, chain_of, cond_of, and_from, and_of, or_from}
use Rattle.branch_spec.specs.Depths.{preds_depth, chain_depth, cond_depth, and_depth, or_depth}
use Rattle.branch_expr.specs.CappedDepths.{greatest_depth}
use Rattle.branch_expr.proofs.DepthLists.{preds_step, and_step, or_step}
use Rattle.branch_expr.proofs.depths.+looks.Goals as goal

pub step_depth-loop-j-preserved : goal.step_depth-loop-j-preserved
step_depth-loop-j-preserved t c =
    let ps = c.args.step.now.preds.items in
    c.greater_of-depth.ensures (preds_depth (preds_of (take c.loop-j.j ps))) (or_depth c.index.result.now) c.loop-j.invariant c.or_depth.ensures
    ∙ ap (capped greatest_depth) (preds_step ps c.loop-j.j c.index.result.now (omega arith) c.index.ensures)

pub and_depth-loop-j-preserved : goal.and_depth-loop-j-preserved
and_depth-loop-j-preserved t c =
    let first = cond_of c.args.and.now.first in
    let ds = c.args.and.now.more.items in
    c.greater_of-depth.ensures (and_depth (and_from first (take c.loop-j.j ds))) (cond_depth (cond_of c.index.result.now)) c.loop-j.invariant c.cond_depth.ensures
    ∙ ap (capped greatest_depth) (and_step first ds c.loop-j.j c.index.result.now (omega arith) c.index.ensures)

pub or_depth-loop-j-preserved : goal.or_depth-loop-j-preserved
or_depth-loop-j-preserved t c =
    let first = and_of c.or.inside.first in
    let bs = c.or.inside.more.items in
    c.greater_of-depth.ensures (or_depth (or_from first (take c.loop-j.j bs))) (and_depth (and_of c.index.result.now)) c.loop-j.invariant c.and_depth.ensures
    ∙ ap (capped greatest_depth) (or_step first bs c.loop-j.j c.index.result.now (omega arith) c.index.ensures)

pub rel_depth-loop-j-preserved : goal.rel_depth-loop-j-preserved
rel_depth-loop-j-preserved t c =
    let hs = c.args.rel.now.rest.items in
    let x = c.index.result.now in
    c.hop_depth-depth.ensures (chain_depth (chain_of (drop c.loop-j.j hs))) c.loop-j.invariant
    ∙ ap (λ y. capped greatest_depth (chain_depth (chain_of y))) (sym (drop_back hs c.loop-j.j x (omega arith) (omega arith) c.index.ensures))

pub rel_depth-returns : goal.rel_depth-returns
rel_depth-returns t c =
    let hs = c.args.rel.now.rest.items in
    c.hop_depth.ensures (chain_depth (chain_of hs)) (c.loop-j.invariant ∙ ap (λ y. capped greatest_depth (chain_depth (chain_of y))) (drop_none hs c.loop-j.j (omega arith)))
