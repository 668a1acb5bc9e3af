use Rattle.std.proofs.Common.{ℕ, take}
use Rattle.std.specs.Prelude.{slice_get}
use Rattle.walk_proof.specs.Marking.{IsMarked, Notes}
use Rattle.walk_proof.specs.Layering.{ReadsFromBy}
use Rattle.walk_proof.proofs.layering.spread_one.Given as goal

abbrev pub invariant-loop-i : goal.invariant-loop-i
invariant-loop-i g l = record {
  notes : Notes (ReadsFromBy (λ k. slice_get l.program k) (g.G.Digraph.span l.g) (g.G.Digraph.label_at l.g) (g.G.Digraph.edge l.g) l.sources l.state l.node) l.initial.rows.items l.rows.items l.initial.layer l.layer;
  marked : (s c : ℕ) → ReadsFromBy (λ k. slice_get l.program k) (g.G.Digraph.span l.g) (g.G.Digraph.label_at l.g) (g.G.Digraph.edge l.g) (take l.i l.sources) l.state l.node s c → IsMarked l.rows.items s c;
}
