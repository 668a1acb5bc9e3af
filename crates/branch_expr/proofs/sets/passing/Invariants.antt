use Rattle.std.proofs.Common.{◌≡◌, ◌↔◌, ◌-◌, ◌≤◌, ℕ, ◌<◌, length, IsTrue}
use Rattle.graph_spec.specs.Members.{has}
use Rattle.path_automaton.specs.NewMarks.{Passes}
use Rattle.branch_expr.proofs.sets.passing.Given as goal

abbrev pub invariant-loop-from : goal.invariant-loop-from
invariant-loop-from g l = record {
  size : l.set.size ≡ g.G.Digraph.span l.g;
  length : length l.noted ≡ 1024;
  within : l.from ≤ g.G.Digraph.span l.g;
  so_far : (m : ℕ) → IsTrue (has l.set.members m) ↔ ((m < l.from) × Passes (g.G.Digraph.label_at l.g) l.test m);
}

abbrev pub decreases-loop-from : goal.decreases-loop-from
decreases-loop-from g l = g.G.Digraph.span l.g - l.from
