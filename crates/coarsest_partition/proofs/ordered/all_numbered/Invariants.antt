use Rattle.std.proofs.Common.{◌<◌, ℕ}
use Rattle.coarsest_partition.specs.Ordered.{IsNumbered}
use Rattle.coarsest_partition.proofs.ordered.all_numbered.Given as goal

abbrev pub invariant-loop-n : goal.invariant-loop-n
invariant-loop-n l = (m : ℕ) → m < l.n → IsNumbered l.view l.block m
