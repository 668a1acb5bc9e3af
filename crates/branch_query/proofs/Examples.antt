-- Candidates at a small graph, and near misses.
use Rattle.std.proofs.Common.{◌≡◌, ◌≢◌, ℕ, zero, suc, List, [], ◌∷◌, ◌++◌, true, false, IsTrue, refl, sym, ap, ◌∙◌, subst, true≢false, Some, arith}
use Rattle.std.specs.Prelude.{codes, slice_index, unwrap_or}
use Rattle.graph_spec.specs.Shapes.{Shape, IsShape}
use Rattle.graph_spec.specs.Walks.{Leads}
use Rattle.path_spec.specs.Trees.{child, Expr, only, last, then, Item, once, label}
use Rattle.path_spec.specs.Matches.{Matches}
use Rattle.path_spec.specs.PathAnswers.{IsAnswer}
use Rattle.bisim_spec.specs.Tests.{bis}
use Rattle.bisim_spec.proofs.WrittenShapes.{shape_of_list, shape_from}
use Rattle.branch_query.specs.Queries.{of_path, IsQueryAnswer}
use Rattle.branch_query.specs.Candidates.{loose, IsCandidate}

-- n0 to n2 are a chain a, b, c, and n3 to n5 one x, b, c
abbrev labels : List (List ℕ)
labels = codes "a" ∷ codes "b" ∷ codes "c" ∷ codes "x" ∷ codes "b" ∷ codes "c" ∷ []

abbrev edges : List (ℕ × ℕ)
edges = (0, 1) ∷ (1, 2) ∷ (3, 4) ∷ (4, 5) ∷ []

abbrev two_chains : Shape
two_chains = shape_of_list labels edges

is_shape : IsShape two_chains
is_shape = shape_from labels edges refl

abbrev item : List ℕ → Item
item t = once (label t)

-- a/b/c
abbrev a_b_c : Expr
a_b_c = only (then (item (codes "a")) child (then (item (codes "b")) child (last (item (codes "c")))))

matches_abc : Matches a_b_c (codes "a" ∷ codes "b" ∷ codes "c" ∷ [])
matches_abc = (codes "a" ∷ [], codes "b" ∷ codes "c" ∷ [], refl, (codes "b" ∷ [], codes "c" ∷ [], refl, refl, refl), refl)

-- told apart by level 1 alone, n2 and n5 are together, and both are candidates of a/b/c
near_candidate : IsCandidate two_chains (bis two_chains 1) (of_path a_b_c) false 2
near_candidate = (codes "a" ∷ codes "b" ∷ codes "c" ∷ [], matches_abc, 0, (refl, 1, refl, (refl, 2, refl, (refl, refl))))

far_candidate : IsCandidate two_chains (bis two_chains 1) (of_path a_b_c) false 5
far_candidate = (codes "a" ∷ codes "b" ∷ codes "c" ∷ [], matches_abc, 0, (refl, 1, refl, (refl, 5, refl, (refl, refl))))

-- a path expression is its own relaxed form
whole_candidate : IsCandidate two_chains (bis two_chains 1) (of_path a_b_c) true 5
whole_candidate = far_candidate

-- a word that matches is this one
only_word : (w : List (List ℕ)) → Matches a_b_c w → w ≡ codes "a" ∷ codes "b" ∷ codes "c" ∷ []
only_word w (f, r, p, (g, q, x, y, d), e) = e ∙ ap (λ l. l ++ r) p ∙ ap (λ l. codes "a" ∷ l) (d ∙ ap (λ l. l ++ q) x ∙ ap (λ l. codes "b" ∷ l) y)

-- a graph in which edges lead to n5 from n4 alone, and to n4 from n3 alone, has no walk over a, b, c to n5
no_walk : (s : Shape) → ((u : ℕ) → IsTrue (s.edge u 5) → u ≡ 4) → ((u : ℕ) → IsTrue (s.edge u 4) → u ≡ 3) → s.label 3 ≢ Some (codes "a")
    → ¬ IsAnswer s a_b_c 5
no_walk s last_edge first_edge other (w, m, u, h) = walk (subst (λ l. Leads s u l 5) (only_word w m) h)
  where
    walk : Leads s u (codes "a" ∷ codes "b" ∷ codes "c" ∷ []) 5 → ⊥
    walk (a, x, e, (b, y, d, (c, z))) =
        let to_x : x ≡ 4 = last_edge x (subst (λ n. IsTrue (s.edge x n)) z d) in
        let to_u : u ≡ 3 = first_edge u (subst (λ n. IsTrue (s.edge u n)) to_x e) in
        other (subst (λ n. s.label n ≡ Some (codes "a")) to_u a)

other_label : two_chains.label 3 ≢ Some (codes "a")
other_label e = omega (arith, ap (λ o. slice_index (unwrap_or o []) 0) e)

-- so n5 is no answer of the graph itself
no_answer : ¬ IsQueryAnswer two_chains (of_path a_b_c) 5
no_answer = no_walk two_chains last_edge first_edge other_label
  where
    last_edge : (u : ℕ) → IsTrue (two_chains.edge u 5) → u ≡ 4
    last_edge zero h = absurd (true≢false (sym h))
    last_edge (suc zero) h = absurd (true≢false (sym h))
    last_edge (suc (suc zero)) h = absurd (true≢false (sym h))
    last_edge (suc (suc (suc zero))) h = absurd (true≢false (sym h))
    last_edge (suc (suc (suc (suc zero)))) h = refl
    last_edge (suc (suc (suc (suc (suc zero))))) h = absurd (true≢false (sym h))
    last_edge (suc (suc (suc (suc (suc (suc n)))))) h = absurd (true≢false (sym (is_shape.from (suc (suc (suc (suc (suc (suc n)))))) 5 h)))

    first_edge : (u : ℕ) → IsTrue (two_chains.edge u 4) → u ≡ 3
    first_edge zero h = absurd (true≢false (sym h))
    first_edge (suc zero) h = absurd (true≢false (sym h))
    first_edge (suc (suc zero)) h = absurd (true≢false (sym h))
    first_edge (suc (suc (suc zero))) h = refl
    first_edge (suc (suc (suc (suc zero)))) h = absurd (true≢false (sym h))
    first_edge (suc (suc (suc (suc (suc zero))))) h = absurd (true≢false (sym h))
    first_edge (suc (suc (suc (suc (suc (suc n)))))) h = absurd (true≢false (sym (is_shape.from (suc (suc (suc (suc (suc (suc n)))))) 4 h)))

-- level 2 tells n2 from n5, and n5 is no candidate of it
abbrev by_two : Shape
by_two = loose two_chains (bis two_chains 2)

no_candidate : ¬ IsCandidate two_chains (bis two_chains 2) (of_path a_b_c) true 5
no_candidate = no_walk by_two last_edge first_edge other_label
  where
    last_edge : (u : ℕ) → IsTrue (by_two.edge u 5) → u ≡ 4
    last_edge zero h = absurd (true≢false (sym h))
    last_edge (suc zero) h = absurd (true≢false (sym h))
    last_edge (suc (suc zero)) h = absurd (true≢false (sym h))
    last_edge (suc (suc (suc zero))) h = absurd (true≢false (sym h))
    last_edge (suc (suc (suc (suc zero)))) h = refl
    last_edge (suc (suc (suc (suc (suc zero))))) h = absurd (true≢false (sym h))
    last_edge (suc (suc (suc (suc (suc (suc n)))))) h = absurd (true≢false (sym h))

    first_edge : (u : ℕ) → IsTrue (by_two.edge u 4) → u ≡ 3
    first_edge zero h = absurd (true≢false (sym h))
    first_edge (suc zero) h = absurd (true≢false (sym h))
    first_edge (suc (suc zero)) h = absurd (true≢false (sym h))
    first_edge (suc (suc (suc zero))) h = refl
    first_edge (suc (suc (suc (suc zero)))) h = absurd (true≢false (sym h))
    first_edge (suc (suc (suc (suc (suc zero))))) h = absurd (true≢false (sym h))
    first_edge (suc (suc (suc (suc (suc (suc n)))))) h = absurd (true≢false (sym h))
