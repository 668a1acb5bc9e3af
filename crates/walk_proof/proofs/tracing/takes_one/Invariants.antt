use Rattle.std.proofs.Common.{ℕ, take, IsTrue}
use Rattle.graph_spec.specs.Members.{has}
use Rattle.walk_proof.specs.Layering.{IsSource}
use Rattle.walk_proof.proofs.tracing.takes_one.Given as goal

abbrev pub invariant-loop-i : goal.invariant-loop-i
invariant-loop-i g l = (s : ℕ) → IsTrue (has (take l.i l.sources) s) → IsSource g.G.Digraph l.g l.program l.states.members l.node l.next s → ⊥
