use Rattle.std.proofs.Common.{ap, arith, map, ◌∙◌}
use Rattle.std.proofs.lemmas.List.{take_all}
use Rattle.branch_spec.specs.Trees as tree
use Rattle.branch_spec.specs.Relaxed.{relax_or, relax_and, relax_cond}
use Rattle.branch_expr.specs.QueryTrees.{cond_of, and_of}
use Rattle.branch_expr.proofs.Relaxed.{preds_relaxed, and_relaxed, or_relaxed, chain_relaxed, hop_of, relax_hop}
use Rattle.branch_expr.proofs.relaxing.+relax.Goals as goal

pub relax_and-returns : goal.relax_and-returns
relax_and-returns t c =
    let old = c.args.and.now.more.items in
    and_relaxed (cond_of c.in_ok-first.first) (cond_of c.args.and.now.first) c.loop-j.more.items old c.in_ok-first.ensures
    (c.loop-j.invariant ∙ ap (λ l. map relax_cond (map cond_of l)) (take_all c.loop-j.j old (omega arith)))

pub relax_or-returns : goal.relax_or-returns
relax_or-returns t c =
    let old = c.or.inside.more.items in
    or_relaxed (and_of c.in_ok-first.first) (and_of c.or.inside.first) c.loop-j.more.items old c.in_ok-first.ensures
    (c.loop-j.invariant ∙ ap (λ l. map relax_and (map and_of l)) (take_all c.loop-j.j old (omega arith)))
    ∙ ap relax_or c.or.view_is

pub relax_rel-returns : goal.relax_rel-returns
relax_rel-returns t c =
    let old = c.args.rel.now.rest.items in
    let rest = chain_relaxed c.loop-j.rest.items old (c.loop-j.invariant ∙ ap (λ l. map relax_hop (map hop_of l)) (take_all c.loop-j.j old (omega arith))) in
    λ i. tree.go (c.in_ok-first.ensures.axis i) (c.in_ok-first.ensures.step i) (rest i)

pub relax_step-returns : goal.relax_step-returns
relax_step-returns t c =
    let old = c.args.step.now.preds.items in
    let preds = preds_relaxed c.loop-j.preds.items old (c.loop-j.invariant ∙ ap (λ l. map relax_or (map (λ o. o) l)) (take_all c.loop-j.j old (omega arith))) in
    λ i. tree.step (c.in_ok-test.ensures i) (preds i)
