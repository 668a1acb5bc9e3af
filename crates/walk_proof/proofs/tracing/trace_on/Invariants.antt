use Rattle.std.proofs.Common.{◌≡◌, ◌<◌, ◌+◌, ℕ, length, IsTrue}
use Rattle.std.specs.Prelude.{slice_get}
use Rattle.graph_spec.specs.Members.{has}
use Rattle.path_automaton.specs.NewMarks.{IsPlace}
use Rattle.walk_proof.proofs.TraceLaws.{AreBelow, IsTracing}
use Rattle.walk_proof.proofs.tracing.trace_on.Given as goal

abbrev pub invariant-nodes : goal.invariant-nodes
invariant-nodes g l = record {
  within : l.left < length l.layers;
  rows : length l.rows.items ≡ length l.program;
  behind : l.behind.0 ≡ length l.program;
  states : (s : ℕ) → IsTrue (has l.states.items s) → s < length l.program;
  place : IsPlace (g.G.Digraph.span l.g) (g.G.Digraph.label_at l.g) l.place;
  below : AreBelow (λ k. slice_get l.program k) (g.G.Digraph.span l.g) (g.G.Digraph.label_at l.g) (g.G.Digraph.edge l.g) l.end (l.left + 1) l.layers l.rows.items;
  tracing : IsTracing (λ k. slice_get l.program k) (g.G.Digraph.span l.g) (g.G.Digraph.label_at l.g) (g.G.Digraph.edge l.g) l.end l.start l.layers l.left l.states.items l.walk.items l.place;
}

abbrev pub decreases-nodes : goal.decreases-nodes
decreases-nodes g l = l.left
