use Rattle.std.proofs.Common.{◌≡◌, ℕ, ◌⊎◌, take, IsTrue}
use Rattle.graph_spec.specs.Members.{has}
use Rattle.path_automaton.specs.ProductSteps.{leads}
use Rattle.walk_proof.specs.Marking.{IsMarked, Notes}
use Rattle.walk_proof.proofs.layering.note_led.Given as goal

abbrev pub invariant-loop-i : goal.invariant-loop-i
invariant-loop-i g l = record {
  notes : Notes (λ s c. (s ≡ l.state) × IsTrue (leads (g.G.Digraph.span l.g) (g.G.Digraph.label_at l.g) (g.G.Digraph.edge l.g) c l.node)) l.fn.rows.items l.rows.items l.fn.layer l.layer;
  marked : (c : ℕ) → (c ≡ g.G.Digraph.span l.g) ⊎ IsTrue (has (take l.i l.parents) c) → IsMarked l.rows.items l.state c;
}
