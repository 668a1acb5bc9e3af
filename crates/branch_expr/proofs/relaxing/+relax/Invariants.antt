use Rattle.std.proofs.Common.{◌≡◌, map, take}
use Rattle.branch_spec.specs.Relaxed.{relax_or, relax_and, relax_cond}
use Rattle.branch_expr.specs.QueryTrees.{cond_of, and_of}
use Rattle.branch_expr.proofs.Relaxed.{hop_of, relax_hop}
use Rattle.branch_expr.proofs.relaxing.+relax.Given as goal

abbrev pub invariant-relax_step-loop-j : goal.invariant-relax_step-loop-j
invariant-relax_step-loop-j l = map (λ o. o) l.preds.items ≡ map relax_or (map (λ o. o) (take l.j l.step.preds.items))

abbrev pub invariant-relax_rel-loop-j : goal.invariant-relax_rel-loop-j
invariant-relax_rel-loop-j l = map hop_of l.rest.items ≡ map relax_hop (map hop_of (take l.j l.rel.rest.items))

abbrev pub invariant-relax_and-loop-j : goal.invariant-relax_and-loop-j
invariant-relax_and-loop-j l = map cond_of l.more.items ≡ map relax_cond (map cond_of (take l.j l.and.more.items))

abbrev pub invariant-relax_or-loop-j : goal.invariant-relax_or-loop-j
invariant-relax_or-loop-j l = map and_of l.more.items ≡ map relax_and (map and_of (take l.j l.or-inside.more.items))
