use Rattle.std.proofs.Common.{take}
use Rattle.std.specs.Prelude.{slice_get, IsSome}
use Rattle.walk_proof.specs.Marking.{Among}
use Rattle.walk_proof.specs.Layering.{IsPassing, IsLeastOf}
use Rattle.walk_proof.proofs.tracing.least_first.Given as goal

abbrev pub invariant-loop-i : goal.invariant-loop-i
invariant-loop-i g l = IsLeastOf (λ c. IsSome (g.G.Digraph.label_at l.g c) × IsPassing (λ k. slice_get l.program k) (g.G.Digraph.label_at l.g) (Among (take l.i l.layer)) l.states.members c) l.best
