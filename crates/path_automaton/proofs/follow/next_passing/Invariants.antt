use Rattle.std.proofs.Common.{◌<◌, ◌≤◌, ◌-◌, ℕ}
use Rattle.path_automaton.specs.ProductSteps.{label_in}
use Rattle.path_automaton.specs.NewMarks.{Passes}
use Rattle.path_automaton.proofs.follow.next_passing.Given as goal

abbrev pub invariant-nodes : goal.invariant-nodes
invariant-nodes g l = record {
  from : l.from ≤ l.place;
  passed : (k : ℕ) → l.from ≤ k → k < l.place → Passes (label_in (g.S.Scope.keeps l.scope) (g.G.Digraph.label_at l.g)) l.test k → ⊥;
}

abbrev pub decreases-nodes : goal.decreases-nodes
decreases-nodes g l = l.size - l.place
