use Rattle.std.proofs.Common.{◌≡◌, map, take}
use Rattle.branch_expr.proofs.Relaxed.{hop_of, relax_hop}
use Rattle.branch_expr.proofs.relaxing.relax.Given as goal

abbrev pub invariant-loop-j : goal.invariant-loop-j
invariant-loop-j l = map hop_of l.rest.items ≡ map relax_hop (map hop_of (take l.j l.query-inside.rest.items))
