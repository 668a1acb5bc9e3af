use Rattle.std.proofs.Common.{ℕ, take, IsTrue}
use Rattle.path_automaton.specs.ProductSteps.{label_in}
use Rattle.graph_spec.specs.Members.{has}
use Rattle.path_automaton.specs.MarkRows.{IsSet}
use Rattle.path_automaton.specs.NewMarks.{Gathers, Gains, Passes}
use Rattle.path_automaton.proofs.follow.mark_and_note_among.Given as goal

abbrev pub invariant-loop-node : goal.invariant-loop-node
invariant-loop-node g l = record {
  gathers : Gathers (λ c. IsTrue (has l.nodes c) × Passes (label_in (g.S.Scope.keeps l.scope) (g.G.Digraph.label_at l.g)) l.tests.0 c) l.initial.row l.row l.initial.found.items l.found.items;
  marked : (c : ℕ) → IsTrue (has (take l.node-index l.nodes) c) → Passes (label_in (g.S.Scope.keeps l.scope) (g.G.Digraph.label_at l.g)) l.tests.0 c → IsSet l.row c;
  noted : Gains l.initial.noted.items l.noted.items (λ c. IsTrue (has (take l.node-index l.nodes) c) × Passes (label_in (g.S.Scope.keeps l.scope) (g.G.Digraph.label_at l.g)) l.tests.1 c);
}
