use Rattle.coarsest_partition.proofs.OrderLaws.{ordered_none}
use Rattle.coarsest_partition.proofs.ordered.no_numbers.Goals as goal

pub returns-clause-ordered : goal.returns-clause-ordered
returns-clause-ordered c = ordered_none _ _ _ c.in_ok-keys.ensures c.in_ok-block.ensures.none
