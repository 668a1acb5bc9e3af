use Rattle.std.proofs.Common.{ap, arith, map, ◌∙◌}
use Rattle.std.proofs.lemmas.List.{take_all}
use Rattle.branch_spec.specs.Trees.{first_step}
use Rattle.branch_spec.specs.Relaxed.{relax}
use Rattle.branch_expr.proofs.Relaxed.{chain_relaxed, hop_of, relax_hop}
use Rattle.branch_expr.proofs.relaxing.relax.Goals as goal

pub returns : goal.returns
returns c =
    let old = c.query.inside.rest.items in
    let rest = chain_relaxed c.loop-j.rest.items old (c.loop-j.invariant ∙ ap (λ l. map relax_hop (map hop_of l)) (take_all c.loop-j.j old (omega arith))) in
    (λ i. first_step (c.in_ok-first.ensures i) (rest i)) ∙ ap relax c.query.view_is
