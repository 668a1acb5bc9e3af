use Rattle.round_refinement.specs.Active.{AreAllNodes}
use Rattle.round_refinement.proofs.active.all_nodes.Given as goal

abbrev pub invariant-loop-n : goal.invariant-loop-n
invariant-loop-n l = AreAllNodes l.block l.n l.nodes.items
