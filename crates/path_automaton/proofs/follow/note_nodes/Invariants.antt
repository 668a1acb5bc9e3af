use Rattle.std.proofs.Common.{◌<◌, ◌-◌}
use Rattle.path_automaton.specs.ProductSteps.{label_in}
use Rattle.path_automaton.specs.NewMarks.{Gains, Passes}
use Rattle.path_automaton.proofs.follow.note_nodes.Given as goal

abbrev pub invariant-nodes : goal.invariant-nodes
invariant-nodes g l = record {
  noted : Gains l.initial.noted.items l.noted.items (λ c. (c < l.place) × Passes (label_in (g.S.Scope.keeps l.scope) (g.G.Digraph.label_at l.g)) l.test c);
  passes : l.place < l.size → Passes (label_in (g.S.Scope.keeps l.scope) (g.G.Digraph.label_at l.g)) l.test l.place;
}

abbrev pub decreases-nodes : goal.decreases-nodes
decreases-nodes g l = l.size - l.place
