use Rattle.graph_load.proofs.LineSteps.{AreLeft}
use Rattle.graph_load.proofs.batch_loader.BatchLoader.add_all.Given as goal

abbrev pub invariant-loop-n : goal.invariant-loop-n
invariant-loop-n l = AreLeft l.limits l.waiting l.n l.fn.self l.self-inside.loader
