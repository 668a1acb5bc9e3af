use Rattle.std.proofs.Common.{arith}
use Rattle.block_partition.proofs.FreedNumbers.{gaps_put}
use Rattle.block_partition.proofs.freed.Freed.put.Goals as goal

pub returns-clause-gaps : goal.returns-clause-gaps
returns-clause-gaps c = λ labels gaps.
    gaps_put labels c.args.self.now _ c.args.n gaps c.stop_at.ensures.before (rw (← c.self.view_is) c.stop_at.ensures.less) (rw (← c.self.view_is) (omega arith)) (omega arith)
