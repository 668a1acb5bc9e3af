use Rattle.std.proofs.Common.{arith}
use Rattle.coarsest_partition.proofs.both.settle_active.Goals as goal

pub take_turns-requires-clause-reserved : goal.take_turns-requires-clause-reserved
take_turns-requires-clause-reserved c = let a = c.in_ok-tables.ensures in let b = c.size.ensures.size in omega (arith, a, b)
