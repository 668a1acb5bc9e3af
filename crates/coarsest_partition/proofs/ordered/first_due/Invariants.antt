use Rattle.std.proofs.Common.{◌-◌, length}
use Rattle.coarsest_partition.proofs.ordered.first_due.Given as goal

abbrev pub decreases-places : goal.decreases-places
decreases-places l = length l.left - l.n
