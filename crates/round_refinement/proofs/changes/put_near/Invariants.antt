use Rattle.std.proofs.Common.{take}
use Rattle.graph_spec.specs.Members.{has}
use Rattle.round_refinement.specs.Changes.{PutsNear}
use Rattle.round_refinement.proofs.changes.put_near.Given as goal

abbrev pub invariant-loop-n : goal.invariant-loop-n
invariant-loop-n l = PutsNear (has (take l.n-index l.nodes)) l.q l.initial.near l.near
