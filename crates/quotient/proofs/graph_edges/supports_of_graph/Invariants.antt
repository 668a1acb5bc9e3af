use Rattle.quotient.specs.QuotientNeighbours.{AreCountedBelow}
use Rattle.quotient.proofs.graph_edges.supports_of_graph.Given as goal

abbrev pub invariant-loop-n : goal.invariant-loop-n
invariant-loop-n l = AreCountedBelow l.view.edges l.blocks.block_of l.n l.supports.pairs l.pairs.items
