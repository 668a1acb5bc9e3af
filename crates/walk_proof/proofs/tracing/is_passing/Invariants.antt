use Rattle.std.proofs.Common.{take}
use Rattle.std.specs.Prelude.{slice_get}
use Rattle.walk_proof.specs.Marking.{IsMarked}
use Rattle.walk_proof.specs.Layering.{IsPassing}
use Rattle.walk_proof.proofs.tracing.is_passing.Given as goal

abbrev pub invariant-loop-i : goal.invariant-loop-i
invariant-loop-i g l = IsPassing (λ k. slice_get l.program k) (g.G.Digraph.label_at l.g) (IsMarked l.rows) (take l.i l.states) l.node → ⊥
