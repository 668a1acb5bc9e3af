use Rattle.std.proofs.Common.{take}
use Rattle.round_refinement.specs.Watches.{PutsNodes}
use Rattle.round_refinement.proofs.watches.Places.put_nodes.Given as goal

abbrev pub invariant-loop-p : goal.invariant-loop-p
invariant-loop-p l = PutsNodes l.n l.side l.block (take l.p-index l.nodes) l.initial.self l.self
