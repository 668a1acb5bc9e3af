use Rattle.bisim_spec.specs.Bisimilarity.{Both}
use Rattle.bisim_spec.specs.Partitions.{Agrees}
use Rattle.round_refinement.specs.NumberedShapes.{digraph_shape}
use Rattle.index_check.proofs.both.settled.Given as goal

abbrev pub invariant-loop-j : goal.invariant-loop-j
invariant-loop-j g l = Agrees (digraph_shape g.G.Digraph l.g) l.block.items (Both (digraph_shape g.G.Digraph l.g) l.j)
