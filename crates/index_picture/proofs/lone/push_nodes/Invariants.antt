use Rattle.index_picture.specs.LoneBlocks.{AreLoneBelow}
use Rattle.index_picture.proofs.lone.push_nodes.Given as goal

abbrev pub invariant-loop-n : goal.invariant-loop-n
invariant-loop-n l = AreLoneBelow l.graph.graph l.n l.block.items l.labels.items
