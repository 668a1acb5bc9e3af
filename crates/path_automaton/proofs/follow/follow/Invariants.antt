use Rattle.std.proofs.Common.{ℕ, take, IsTrue}
use Rattle.path_automaton.specs.ProductSteps.{label_in, edge_in}
use Rattle.graph_spec.specs.Members.{has}
use Rattle.path_automaton.specs.MarkRows.{IsSet}
use Rattle.path_automaton.specs.NewMarks.{Gathers, Next, NextOf}
use Rattle.path_automaton.proofs.follow.follow.Given as goal

abbrev pub invariant-loop-p : goal.invariant-loop-p
invariant-loop-p g l = record {
  gathers : Gathers (NextOf (g.G.Digraph.span l.g) (label_in (g.S.Scope.keeps l.scope) (g.G.Digraph.label_at l.g)) (edge_in (g.S.Scope.keeps l.scope) (g.G.Digraph.edge l.g)) l.test l.places) l.initial.row l.row l.initial.found.items l.found.items;
  marked : (v c : ℕ) → IsTrue (has (take l.p-index l.places) v) → Next (g.G.Digraph.span l.g) (label_in (g.S.Scope.keeps l.scope) (g.G.Digraph.label_at l.g)) (edge_in (g.S.Scope.keeps l.scope) (g.G.Digraph.edge l.g)) l.test v c → IsSet l.row c;
}
