use Rattle.std.proofs.Common.{take, IsTrue}
use Rattle.std.specs.Prelude.{slice_get}
use Rattle.graph_spec.specs.Members.{has}
use Rattle.walk_proof.specs.Marking.{IsMarked}
use Rattle.walk_proof.specs.Layering.{IsPassing, IsLeastOf}
use Rattle.walk_proof.proofs.tracing.least_among.Given as goal

abbrev pub invariant-loop-i : goal.invariant-loop-i
invariant-loop-i g l = IsLeastOf (λ c. IsTrue (has (take l.i l.nodes) c) × IsPassing (λ k. slice_get l.program k) (g.G.Digraph.label_at l.g) (IsMarked l.rows) l.states c) l.best
