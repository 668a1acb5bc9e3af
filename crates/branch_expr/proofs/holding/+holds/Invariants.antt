use Rattle.std.proofs.Common.{◌≡◌, take, drop}
use Rattle.path_automaton.specs.Digraphs.{shape_through}
use Rattle.branch_spec.specs.BranchAnswers.{HoldAll, HoldsOr, HoldsAnd, Goes}
use Rattle.branch_expr.specs.QueryTrees.{preds_of, chain_of, cond_of, and_from, and_of, or_from}
use Rattle.branch_expr.specs.Images.{Keeps}
use Rattle.branch_expr.specs.Sets.{IsSetOf}
use Rattle.branch_expr.proofs.holding.+holds.Given as goal

abbrev pub invariant-keep_and-loop-j : goal.invariant-keep_and-loop-j
invariant-keep_and-loop-j g l = record {
  size : l.set.size ≡ l.initial.set.size;
  keeps : Keeps l.fn.set.members l.set.members (HoldsAnd (shape_through g.G.Digraph l.labels l.g) (and_from (cond_of l.and.first) (take l.j l.and.more.items)));
}

abbrev pub invariant-and_set-loop-j : goal.invariant-and_set-loop-j
invariant-and_set-loop-j g l = record {
  size : l.set.size ≡ g.G.Digraph.span l.g;
  holds : IsSetOf (g.G.Digraph.label_at l.g) l.set.members (HoldsAnd (shape_through g.G.Digraph l.labels l.g) (and_from (cond_of l.and.first) (take l.j l.and.more.items)));
}

abbrev pub invariant-or_set-loop-j : goal.invariant-or_set-loop-j
invariant-or_set-loop-j g l = record {
  size : l.set.size ≡ g.G.Digraph.span l.g;
  holds : IsSetOf (g.G.Digraph.label_at l.g) l.set.members (HoldsOr (shape_through g.G.Digraph l.labels l.g) (or_from (and_of l.or-inside.first) (take l.j l.or-inside.more.items)));
}

abbrev pub invariant-rel_set-loop-j : goal.invariant-rel_set-loop-j
invariant-rel_set-loop-j g l = record {
  size : l.set.size ≡ g.G.Digraph.span l.g;
  holds : IsSetOf (g.G.Digraph.label_at l.g) l.set.members (Goes (shape_through g.G.Digraph l.labels l.g) (chain_of (drop l.j l.rel.rest.items)));
}

abbrev pub invariant-step_set-loop-j : goal.invariant-step_set-loop-j
invariant-step_set-loop-j g l = record {
  size : l.set.size ≡ g.G.Digraph.span l.g;
  holds : IsSetOf (g.G.Digraph.label_at l.g) l.set.members (HoldAll (shape_through g.G.Digraph l.labels l.g) (preds_of (take l.j l.step.preds.items)));
}

abbrev pub invariant-deny_or-loop-j : goal.invariant-deny_or-loop-j
invariant-deny_or-loop-j g l = record {
  size : l.set.size ≡ l.initial.set.size;
  keeps : Keeps l.fn.set.members l.set.members (λ v. HoldsOr (shape_through g.G.Digraph l.labels l.g) (or_from (and_of l.or-inside.first) (take l.j l.or-inside.more.items)) v → ⊥);
}
