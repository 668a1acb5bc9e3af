use Rattle.index_check.proofs.OuterKeys.{LoopedBelow}
use Rattle.index_check.proofs.outer.inner_labels.Given as goal

abbrev pub invariant-loop-n : goal.invariant-loop-n
invariant-loop-n g l = LoopedBelow l.block (g.G.Digraph.label_at l.g) (g.G.Digraph.edge l.g) l.n l.labels.items
