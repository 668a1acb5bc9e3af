use Rattle.std.proofs.Common.{◌<◌, ◌-◌, ℕ}
use Rattle.path_automaton.specs.ProductSteps.{label_in}
use Rattle.path_automaton.specs.MarkRows.{IsSet}
use Rattle.path_automaton.specs.NewMarks.{Gathers, Passes}
use Rattle.path_automaton.proofs.follow.mark_nodes.Given as goal

abbrev pub invariant-nodes : goal.invariant-nodes
invariant-nodes g l = record {
  gathers : Gathers (λ c. Passes (label_in (g.S.Scope.keeps l.scope) (g.G.Digraph.label_at l.g)) l.test c) l.initial.row l.row l.initial.found.items l.found.items;
  marked : (c : ℕ) → c < l.place → Passes (label_in (g.S.Scope.keeps l.scope) (g.G.Digraph.label_at l.g)) l.test c → IsSet l.row c;
  passes : l.place < l.size → Passes (label_in (g.S.Scope.keeps l.scope) (g.G.Digraph.label_at l.g)) l.test l.place;
}

abbrev pub decreases-nodes : goal.decreases-nodes
decreases-nodes g l = l.size - l.place
