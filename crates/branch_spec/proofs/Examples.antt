-- The definitions at a small graph, and near misses.
use Rattle.std.proofs.Common.{◌≡◌, ℕ, zero, suc, List, refl, sym, Bool, true, false, true≢false, Option, Some, None}
use Rattle.std.specs.Prelude.{codes}
use Rattle.graph_spec.specs.Shapes.{Shape}
use Rattle.branch_spec.specs.Trees.{child, below, parent, above, label, any, Step, step, none, pred, Or, one, or, lone, and, Cond, fails, group, rel, always, no_step, go, Branch, first_step}
use Rattle.branch_spec.specs.BranchAnswers.{direct, further, HoldsCond, IsBranchAnswer}
use Rattle.branch_spec.specs.Relaxed.{relax}
use Rattle.branch_spec.specs.Spelling.{canonical}

-- a leads to b and to c, and b to d
abbrev small_label : ℕ → Option (List ℕ)
small_label zero = Some (codes "a")
small_label (suc zero) = Some (codes "b")
small_label (suc (suc zero)) = Some (codes "c")
small_label (suc (suc (suc zero))) = Some (codes "d")
small_label (suc (suc (suc (suc n)))) = None

abbrev small_edge : ℕ → ℕ → Bool
small_edge zero (suc zero) = true
small_edge zero (suc (suc zero)) = true
small_edge (suc zero) (suc (suc (suc zero))) = true
small_edge u v = false

abbrev small : Shape
small = record { size = 4; label = small_label; edge = small_edge }

-- a step that asks for a label alone
abbrev plain : List ℕ → Step
plain t = step (label t) none

abbrev alone : Cond → Or
alone c = one (lone c)

-- whether a child has the label
abbrev has_child : List ℕ → Cond
has_child t = rel child (plain t) no_step

-- a//d
abbrev a_below_d : Branch
a_below_d = first_step (plain (codes "a")) (go below (plain (codes "d")) no_step)

d_answers : IsBranchAnswer small a_below_d 3
d_answers = (0, (refl, tt), (3, further 0 1 3 (direct 0 1 refl) refl, (refl, tt), refl))

-- d\\a
abbrev d_above_a : Branch
d_above_a = first_step (plain (codes "d")) (go above (plain (codes "a")) no_step)

a_answers : IsBranchAnswer small d_above_a 0
a_answers = (3, (refl, tt), (0, further 0 1 3 (direct 0 1 refl) refl, (refl, tt), refl))

-- c has no child d, and b has one
no_d : HoldsCond small (fails (alone (has_child (codes "d")))) 2
no_d (c, e, m, k) = true≢false (sym e)

some_d : HoldsCond small (fails (alone (has_child (codes "d")))) 1 → ⊥
some_d h = h (3, refl, (refl, tt), tt)

-- _[/b and not(/d)]
abbrev b_but_not_d : Branch
b_but_not_d = first_step (step any (pred (one (and (has_child (codes "b")) (lone (fails (alone (has_child (codes "d"))))))) none)) no_step

-- relaxed, it denies nothing
relaxed_query : relax b_but_not_d ≡ first_step (step any (pred (one (and (has_child (codes "b")) (lone always))) none)) no_step
relaxed_query = refl

-- what a 'not' denies isn't looked into, and all before it stays
nested_query : relax (first_step (step any (pred (alone (group (alone (fails (alone (fails (alone (has_child (codes "d"))))))))) none)) no_step)
    ≡ first_step (step any (pred (alone (group (alone always))) none)) no_step
nested_query = refl

canonical_query : canonical b_but_not_d ≡ codes "_[/b and not(/d)]"
canonical_query = refl

canonical_axes : canonical (first_step (plain (codes "a")) (go below (plain (codes "b")) (go parent (step any none) (go above (plain (codes "c")) no_step)))) ≡ codes "a//b\\_\\\\c"
canonical_axes = refl

canonical_group : canonical (first_step (step (label (codes "a")) (pred (or (lone (group (one (lone (has_child (codes "b")))))) (one (lone (rel parent (plain (codes "c")) (go child (step any none) no_step))))) none)) no_step)
    ≡ codes "a[(/b) or \\c/_]"
canonical_group = refl
