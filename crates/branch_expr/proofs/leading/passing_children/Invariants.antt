use Rattle.std.proofs.Common.{◌≡◌, ◌↔◌, ◌-◌, ◌≤◌, ℕ, ◌<◌, length, IsTrue}
use Rattle.graph_spec.specs.Members.{has}
use Rattle.path_automaton.specs.NewMarks.{Passes}
use Rattle.branch_expr.proofs.leading.passing_children.Given as goal

abbrev pub invariant-loop-from : goal.invariant-loop-from
invariant-loop-from g l = record {
  size : l.image.size ≡ g.G.Digraph.span l.g;
  length : length l.noted ≡ 1024;
  within : l.from ≤ g.G.Digraph.span l.g;
  so_far : (c : ℕ) → IsTrue (has l.image.members c) ↔ ((v : ℕ) × (v < l.from) × Passes (g.G.Digraph.label_at l.g) l.test v × IsTrue (g.G.Digraph.edge l.g v c));
}

abbrev pub decreases-loop-from : goal.decreases-loop-from
decreases-loop-from g l = g.G.Digraph.span l.g - l.from
