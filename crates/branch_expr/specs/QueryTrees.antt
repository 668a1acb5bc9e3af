-- The tree that a query stands for.
use Rattle.std.specs.Prelude.{List, [], ◌∷◌}
use Rattle.branch_spec.specs.Trees as tree
use Rattle.branch_expr.specs.Axes.{axis_of}
use Rattle.branch_expr.specs.declared.tree.Test.{Test}
use Rattle.branch_expr.specs.declared.tree.Test.TheVariants.{Label, Any}
use Rattle.branch_expr.specs.declared.tree.Step.{Step}
use Rattle.branch_expr.specs.declared.tree.Hop.{Hop}
use Rattle.branch_expr.specs.declared.tree.Rel as rels
use Rattle.branch_expr.specs.declared.tree.Cond.{Cond}
use Rattle.branch_expr.specs.declared.tree.Cond.TheVariants.{Not, Group, Rel, True}
use Rattle.branch_expr.specs.declared.tree.And.{And}

-- the test that the code's test stands for
abbrev pub test_of : Test → tree.Test
test_of (Label t) = tree.label t
test_of Any = tree.any

-- the predicates of a step, each of them alternatives
abbrev pub preds_of : List tree.Or → tree.Preds
preds_of [] = tree.none
preds_of (o ∷ os) = tree.pred o (preds_of os)

-- the step that the code's step stands for
abbrev pub step_of : Step → tree.Step
step_of s = tree.step (test_of s.test) (preds_of s.preds.items)

-- the chain of these hops
abbrev pub chain_of : List Hop → tree.Chain
chain_of [] = tree.no_step
chain_of (h ∷ hs) = tree.go (axis_of h.axis) (step_of h.step) (chain_of hs)

-- the chain of a relative path: its first hop, and then the rest
abbrev pub rel_of : rels.Rel → tree.Chain
rel_of r = chain_of (r.first ∷ r.rest.items)

-- the condition that the code's condition stands for
abbrev pub cond_of : Cond → tree.Cond
cond_of (Not o) = tree.fails o.value
cond_of (Group o) = tree.group o.value
cond_of (Rel r) = tree.rel (axis_of r.first.axis) (step_of r.first.step) (chain_of r.rest.items)
cond_of True = tree.always

-- the conjunction of a condition and of those that follow
abbrev pub and_from : tree.Cond → List Cond → tree.And
and_from c [] = tree.lone c
and_from c (d ∷ ds) = tree.and c (and_from (cond_of d) ds)

-- the conjunction that the code's conjunction stands for
abbrev pub and_of : And → tree.And
and_of a = and_from (cond_of a.first) a.more.items

-- the alternatives of a conjunction and of those that follow
abbrev pub or_from : tree.And → List And → tree.Or
or_from a [] = tree.one a
or_from a (b ∷ bs) = tree.or a (or_from (and_of b) bs)
