use Rattle.std.proofs.Common.{ℕ, take, IsTrue}
use Rattle.path_automaton.specs.ProductSteps.{label_in, edge_in}
use Rattle.graph_spec.specs.Members.{has}
use Rattle.path_automaton.specs.MarkRows.{IsSet}
use Rattle.path_automaton.specs.NewMarks.{Gathers, Gains, Next, NextOf}
use Rattle.path_automaton.proofs.follow.follow_both.Given as goal

abbrev pub invariant-loop-p : goal.invariant-loop-p
invariant-loop-p g l = record {
  gathers : Gathers (NextOf (g.G.Digraph.span l.g) (label_in (g.S.Scope.keeps l.scope) (g.G.Digraph.label_at l.g)) (edge_in (g.S.Scope.keeps l.scope) (g.G.Digraph.edge l.g)) l.tests.0 l.places) l.initial.row l.row l.initial.found.items l.found.items;
  marked : (v c : ℕ) → IsTrue (has (take l.p-index l.places) v) → Next (g.G.Digraph.span l.g) (label_in (g.S.Scope.keeps l.scope) (g.G.Digraph.label_at l.g)) (edge_in (g.S.Scope.keeps l.scope) (g.G.Digraph.edge l.g)) l.tests.0 v c → IsSet l.row c;
  noted : Gains l.initial.noted.items l.noted.items (NextOf (g.G.Digraph.span l.g) (label_in (g.S.Scope.keeps l.scope) (g.G.Digraph.label_at l.g)) (edge_in (g.S.Scope.keeps l.scope) (g.G.Digraph.edge l.g)) l.tests.1 (take l.p-index l.places));
}
