-- Candidates of a branching query that denies something, at a small graph.
use Rattle.std.proofs.Common.{ℕ, zero, suc, List, [], ◌∷◌, true, false, IsTrue, refl, sym, subst, true≢false}
use Rattle.std.specs.Prelude.{codes}
use Rattle.graph_spec.specs.Shapes.{Shape, IsShape}
use Rattle.branch_spec.specs.Trees.{child, label, Step, step, none, pred, Or, one, lone, fails, rel, no_step, first_step}
use Rattle.branch_spec.specs.BranchAnswers.{Meets}
use Rattle.bisim_spec.specs.Tests.{bis}
use Rattle.bisim_spec.proofs.WrittenShapes.{shape_of_list, shape_from}
use Rattle.branch_query.specs.Queries as queries
use Rattle.branch_query.specs.Queries.{Query, IsQueryAnswer}
use Rattle.branch_query.specs.Candidates.{loose, IsCandidate}

-- n0 is an a with a child b, n2 an a alone
abbrev labels : List (List ℕ)
labels = codes "a" ∷ codes "b" ∷ codes "a" ∷ []

abbrev edges : List (ℕ × ℕ)
edges = (0, 1) ∷ []

abbrev two_heads : Shape
two_heads = shape_of_list labels edges

is_shape : IsShape two_heads
is_shape = shape_from labels edges refl

abbrev has_b : Or
has_b = one (lone (rel child (step (label (codes "b")) none) no_step))

-- a[not(/b)]
abbrev first : Step
first = step (label (codes "a")) (pred (one (lone (fails has_b))) none)

abbrev without_b : Query
without_b = queries.of_branch (first_step first no_step)

-- n2 answers, and n0 doesn't
alone_answers : IsQueryAnswer two_heads without_b 2
alone_answers = (2, (refl, (λ (c, e, m, k). no_child c e, tt)), refl)
  where
    no_child : (c : ℕ) → IsTrue (two_heads.edge 2 c) → ⊥
    no_child zero h = true≢false (sym h)
    no_child (suc zero) h = true≢false (sym h)
    no_child (suc (suc zero)) h = true≢false (sym h)
    no_child (suc (suc (suc n))) h = true≢false (sym (is_shape.onto 2 (suc (suc (suc n))) h))

head_is_denied : ¬ IsQueryAnswer two_heads without_b 0
head_is_denied (u, m, e) = (subst (Meets two_heads first) e m).1.0 (1, refl, (refl, tt), tt)

-- Told apart by their labels alone, n0 and n2 are together. So n2 is seen with a child b as well, and the whole query
-- would miss it; its relaxed form keeps both.
would_be_missed : ¬ IsCandidate two_heads (bis two_heads 0) without_b true 2
would_be_missed (u, m, e) = (subst (Meets (loose two_heads (bis two_heads 0)) first) e m).1.0 (1, refl, (refl, tt), tt)

alone_is_kept : IsCandidate two_heads (bis two_heads 0) without_b false 2
alone_is_kept = (2, (refl, (tt, tt)), refl)

head_is_looked_up : IsCandidate two_heads (bis two_heads 0) without_b false 0
head_is_looked_up = (0, (refl, (tt, tt)), refl)
