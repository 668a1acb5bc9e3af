use Rattle.std.proofs.Common.{◌≡◌, ℕ, None, vec_len}
use Rattle.graph_spec.specs.Members.{at}
use Rattle.coarsest_partition.proofs.ordered.none_numbered.Given as goal

abbrev pub invariant-places : goal.invariant-places
invariant-places l = record { none : (n : ℕ) → at l.block.items n ≡ None; long : vec_len l.block ≡ l.counter }
