use Rattle.std.proofs.Common.{length}
use Rattle.graph_load.proofs.batch.give_back.Given as goal

abbrev pub decreases-loop-w : goal.decreases-loop-w
decreases-loop-w l = length l.waiting.items
