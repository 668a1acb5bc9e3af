use Rattle.quotient.specs.QuotientNeighbours.{AreListedBelow}
use Rattle.quotient.proofs.edges.EdgeList.of.Given as goal

abbrev pub invariant-loop-n : goal.invariant-loop-n
invariant-loop-n l = AreListedBelow l.view.edges l.n l.edges.items
