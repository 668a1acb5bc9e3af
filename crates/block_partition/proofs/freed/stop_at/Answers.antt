use Rattle.std.proofs.Common.{arith}
use Rattle.block_partition.proofs.FreedNumbers.{group_size}
use Rattle.block_partition.proofs.freed.stop_at.Goals as goal

pub shorten-requires-clause-size : goal.shorten-requires-clause-size
shorten-requires-clause-size c =
    let more = c.levels-test.true in
    (group_size c.levels.level c.levels.size (omega arith) c.levels.invariant.size).0

pub overflow_mul-size : goal.overflow_mul-size
overflow_mul-size c =
    let few = (group_size c.levels.level c.levels.size (omega arith) c.levels.invariant.size).1 in
    omega (arith, few)
