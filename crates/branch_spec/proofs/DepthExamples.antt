-- Depths at worked queries, and what a level too few loses.
use Rattle.std.proofs.Common.{◌≡◌, ℕ, List, [], ◌∷◌, refl, true, false, Some, None}
use Rattle.std.specs.Prelude.{codes}
use Rattle.graph_spec.specs.Shapes.{Shape}
use Rattle.bisim_spec.specs.Tests.{both}
use Rattle.bisim_spec.proofs.WrittenShapes.{shape_of_list}
use Rattle.branch_spec.specs.Trees.{child, below, parent, above, label, Step, step, none, pred, Or, one, or, lone, and, Cond, fails, group, rel, always, no_step, go, Branch, first_step}
use Rattle.branch_spec.specs.BranchAnswers.{IsBranchAnswer}
use Rattle.branch_spec.specs.Relaxed.{relax}
use Rattle.branch_spec.specs.Depths.{depth}

abbrev plain : List ℕ → Step
plain t = step (label t) none

abbrev having : List ℕ → Or → Step
having t o = step (label t) (pred o none)

abbrev alone : Cond → Or
alone c = one (lone c)

-- /b
abbrev to_b : Cond
to_b = rel child (plain (codes "b")) no_step

-- /b/c
abbrev to_b_c : Cond
to_b_c = rel child (plain (codes "b")) (go child (plain (codes "c")) no_step)

-- \c[/b]/d/e
abbrev far : Cond
far = rel parent (having (codes "c") (alone to_b)) (go child (plain (codes "d")) (go child (plain (codes "e")) no_step))

-- a
no_axis : depth (first_step (plain (codes "a")) no_step) ≡ Some 0
no_axis = refl

-- a/b/c: the first step lies two axes before the last
of_steps : depth (first_step (plain (codes "a")) (go child (plain (codes "b")) (go child (plain (codes "c")) no_step))) ≡ Some 2
of_steps = refl

-- a[/b], a[/b/c] and a[\c[/b]/d/e]: steps are counted by their places, and their own predicates from there
of_one_step : depth (first_step (having (codes "a") (alone to_b)) no_step) ≡ Some 1
of_one_step = refl

of_two_steps : depth (first_step (having (codes "a") (alone to_b_c)) no_step) ≡ Some 2
of_two_steps = refl

of_far_steps : depth (first_step (having (codes "a") (alone far)) no_step) ≡ Some 3
of_far_steps = refl

-- a[/b[/b[/b]]]: one deeper with each bracket
of_nested : depth (first_step (having (codes "a") (alone (rel child (having (codes "b") (alone (rel child (having (codes "b") (alone to_b)) no_step))) no_step))) no_step) ≡ Some 3
of_nested = refl

-- 'or', 'and', 'not' and parentheses add nothing
of_or : depth (first_step (having (codes "a") (or (lone to_b) (alone to_b_c))) no_step) ≡ Some 2
of_or = refl

of_and : depth (first_step (having (codes "a") (one (and to_b_c (lone to_b)))) no_step) ≡ Some 2
of_and = refl

of_not : depth (first_step (having (codes "a") (alone (fails (alone to_b_c)))) no_step) ≡ Some 2
of_not = refl

of_group : depth (first_step (having (codes "a") (alone (group (alone to_b_c)))) no_step) ≡ Some 2
of_group = refl

-- a[/b/c][/b]
of_two_predicates : depth (first_step (step (label (codes "a")) (pred (alone to_b_c) (pred (alone to_b) none))) no_step) ≡ Some 2
of_two_predicates = refl

-- a/b[/c] and a[/b]/c: what is asked of a step before the last lies further off by the axes behind it
at_the_last : depth (first_step (plain (codes "a")) (go child (having (codes "b") (alone to_b)) no_step)) ≡ Some 1
at_the_last = refl

before_the_last : depth (first_step (having (codes "a") (alone to_b)) (go child (plain (codes "c")) no_step)) ≡ Some 2
before_the_last = refl

-- a[//b] and a\\b
without_bound : depth (first_step (having (codes "a") (alone (rel below (plain (codes "b")) no_step))) no_step) ≡ None
without_bound = refl

without_bound_above : depth (first_step (plain (codes "a")) (go above (plain (codes "b")) no_step)) ≡ None
without_bound_above = refl

-- a[not(//b)] has no depth, and relaxed it has one
abbrev nothing_below : Branch
nothing_below = first_step (having (codes "a") (alone (fails (alone (rel below (plain (codes "b")) no_step))))) no_step

denied : depth nothing_below ≡ None
denied = refl

relaxed_depth : depth (relax nothing_below) ≡ Some 0
relaxed_depth = refl

-- A query of depth 2 tells nodes apart that are bisimilar by parents and children to level 1: of 0 and 3, only 0
-- leads to a 'c'.
abbrev chains : Shape
chains = shape_of_list (codes "a" ∷ codes "b" ∷ codes "c" ∷ codes "a" ∷ codes "b" ∷ codes "d" ∷ []) ((0, 1) ∷ (1, 2) ∷ (3, 4) ∷ (4, 5) ∷ [])

alike_to_one : both chains 1 0 3 ≡ true
alike_to_one = refl

apart_at_two : both chains 2 0 3 ≡ false
apart_at_two = refl

answers : IsBranchAnswer chains (first_step (having (codes "a") (alone to_b_c)) no_step) 0
answers = (0, (refl, ((1, refl, (refl, tt), (2, refl, (refl, tt), tt)), tt)), refl)
