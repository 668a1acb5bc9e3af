use Rattle.std.proofs.Common.{◌≡◌, ℕ, take}
use Rattle.path_automaton.specs.Digraphs.{shape_through}
use Rattle.branch_spec.specs.BranchAnswers.{Meets, Ends}
use Rattle.branch_expr.specs.QueryTrees.{step_of, chain_of}
use Rattle.branch_expr.specs.Sets.{IsSetOf}
use Rattle.branch_expr.proofs.answers.eval.Given as goal

abbrev pub invariant-loop-j : goal.invariant-loop-j
invariant-loop-j g l = record {
  size : l.set.size ≡ g.G.Digraph.span l.g;
  holds : IsSetOf (g.G.Digraph.label_at l.g) l.set.members (λ v. (u : ℕ) × Meets (shape_through g.G.Digraph l.labels l.g) (step_of l.query-inside.first) u
      × Ends (shape_through g.G.Digraph l.labels l.g) (chain_of (take l.j l.query-inside.rest.items)) u v);
}
