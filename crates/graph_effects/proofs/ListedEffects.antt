-- The nodes and edges of effects, one after the other, as their lists give them.
use Rattle.std.proofs.Common.{◌≡◌, ℕ, zero, suc, ◌+◌, ◌<◌, ◌≤◌, ◌^◌, List, [], ◌∷◌, ◌++◌, length, IsTrue, refl, sym, ◌∙◌, ap, subst, arith, inl, inr, true, false, take, get_or, true≢false}
use Rattle.std.specs.Prelude.{nat_eq, ◌||◌}
use Rattle.std.proofs.Math.Bool.{or-true}
use Rattle.std.proofs.lemmas.Bool.{cases_Bool, or_cases, and_parts}
use Rattle.std.proofs.lemmas.Bool.Decides.{Decides-eqb}
use Rattle.std.proofs.lemmas.List.{take_more}
use Rattle.graph_spec.specs.Graphs.{Graph, IsGraph, is_live, has_edge}
use Rattle.graph_spec.specs.Members.{has}
use Rattle.graph_spec.proofs.GraphLaws.{is_shape}
use Rattle.graph_effects.specs.Effects.{EffectLists, AreEffects, same_pair, has_pair, without_edges, with_edges}
use Rattle.graph_effects.proofs.EdgeLists.{pair_at, pair_there, edge_there}
use Rattle.graph_effects.proofs.EffectLaws.{came_parts, gone_parts, relabelled_parts, lost_edges, left_in_both}

-- ---- nodes

-- the numbers in front of a place are one more at the next place
pub nodes_next : (xs : List ℕ) (i : ℕ) → i < length xs → take (i + 1) xs ≡ take i xs ++ get_or xs i 0 ∷ []
nodes_next xs i h = take_more xs i 0 h

-- a number of a list stands in it
node_there : (xs : List ℕ) (i : ℕ) → i < length xs → has xs (get_or xs i 0) ≡ true
node_there [] i h = absurd (omega (arith, h))
node_there (x ∷ xs) zero h = ap (λ b. b || has xs x) ((Decides-eqb x x).1 refl)
node_there (x ∷ xs) (suc i) h = ap (λ b. nat_eq (get_or xs i 0) x || b) (node_there xs i (omega (arith, h))) ∙ or-true (nat_eq (get_or xs i 0) x)

listed : (xs ys : List ℕ) (i : ℕ) → xs ≡ ys → i < length xs → IsTrue (has ys (get_or xs i 0))
listed xs ys i is h = subst (λ (zs : List ℕ). has zs (get_or xs i 0) ≡ true) is (node_there xs i h)

pub came_live : (g g2 : Graph) (xs : List ℕ) (e : EffectLists) (i : ℕ) → AreEffects g g2 e → xs ≡ e.came → i < length xs → IsTrue (is_live g2 (get_or xs i 0))
came_live g g2 xs e i w is h = (came_parts g g2 e (get_or xs i 0) w (listed xs e.came i is h)).0

pub came_dead : (g g2 : Graph) (xs : List ℕ) (e : EffectLists) (i : ℕ) → AreEffects g g2 e → xs ≡ e.came → i < length xs → is_live g (get_or xs i 0) ≡ false
came_dead g g2 xs e i w is h = (came_parts g g2 e (get_or xs i 0) w (listed xs e.came i is h)).1

pub gone_there : (xs : List ℕ) (e : EffectLists) (i : ℕ) → xs ≡ e.gone → i < length xs → IsTrue (has e.gone (get_or xs i 0))
gone_there xs e i is h = listed xs e.gone i is h

-- a node that gets another label is a node of the second graph
pub relabelled_live : (g g2 : Graph) (xs : List ℕ) (e : EffectLists) (i : ℕ) → AreEffects g g2 e → xs ≡ e.relabelled → i < length xs → IsTrue (is_live g2 (get_or xs i 0))
relabelled_live g g2 xs e i w is h = (relabelled_parts g g2 e (get_or xs i 0) w (listed xs e.relabelled i is h)).1

-- numbers of nodes are small
pub live_small : (g : Graph) (n : ℕ) → IsGraph g → IsTrue (is_live g n) → length g.allocated ≤ 2 ^ 30 → n < 2 ^ 31
live_small g n graph live few = (let below = (is_shape g graph).below n live in omega (arith, below, few))

pub gone_small : (g g2 : Graph) (xs : List ℕ) (e : EffectLists) (i : ℕ) → AreEffects g g2 e → IsGraph g → xs ≡ e.gone → i < length xs → length g.allocated ≤ 2 ^ 30 → get_or xs i 0 < 2 ^ 31
gone_small g g2 xs e i w graph is h few = live_small g (get_or xs i 0) graph (gone_parts g g2 e (get_or xs i 0) w (gone_there xs e i is h)).0 few

-- ---- edges

-- a loop gives the pair at a place, whatever stands past the end
pub pair_is : (es fs : List (ℕ × ℕ)) (i : ℕ) (other : ℕ × ℕ) → es ≡ fs → i < length es → get_or es i other ≡ pair_at fs i
pair_is es fs i other same h = ap (λ (xs : List (ℕ × ℕ)). get_or xs i other) same ∙ any_end fs i other (subst (λ (xs : List (ℕ × ℕ)). i < length xs) same h)
  where
    any_end : (xs : List (ℕ × ℕ)) (i : ℕ) (other : ℕ × ℕ) → i < length xs → get_or xs i other ≡ pair_at xs i
    any_end [] i other h = absurd (omega (arith, h))
    any_end (x ∷ xs) zero other h = refl
    any_end (x ∷ xs) (suc i) other h = any_end xs i other (omega (arith, h))

lost_there : (g g2 : Graph) (e : EffectLists) (j : ℕ) → AreEffects g g2 e → j < length e.lost → has_edge g (pair_at e.lost j).0 (pair_at e.lost j).1 ≡ true
lost_there g g2 e j w h = (lost_edges g g2 e w).there (pair_at e.lost j).0 (pair_at e.lost j).1 (pair_there e.lost j h)

-- an edge that goes began at a node
pub lost_begins : (g g2 : Graph) (e : EffectLists) (j : ℕ) → AreEffects g g2 e → IsGraph g → j < length e.lost → IsTrue (is_live g (pair_at e.lost j).0)
lost_begins g g2 e j w graph h = graph.from (pair_at e.lost j).0 (pair_at e.lost j).1 (lost_there g g2 e j w h)

-- an edge that goes ended at a node
pub lost_ends : (g g2 : Graph) (e : EffectLists) (j : ℕ) → AreEffects g g2 e → IsGraph g → j < length e.lost → IsTrue (is_live g (pair_at e.lost j).1)
lost_ends g g2 e j w graph h = graph.onto (pair_at e.lost j).0 (pair_at e.lost j).1 (lost_there g g2 e j w h)

added_there : (g g2 : Graph) (e : EffectLists) (u v : ℕ) → AreEffects g g2 e → has_pair e.added u v ≡ true → has_edge g2 u v ≡ true
added_there g g2 e u v w h = (and_parts (has_edge g2 u v) _ (sym (w.added.members u v) ∙ h)).0

-- an edge that comes begins at a node
pub added_begins : (g g2 : Graph) (e : EffectLists) (j : ℕ) → AreEffects g g2 e → IsGraph g2 → j < length e.added → IsTrue (is_live g2 (pair_at e.added j).0)
added_begins g g2 e j w graph h =
    graph.from (pair_at e.added j).0 (pair_at e.added j).1 (added_there g g2 e (pair_at e.added j).0 (pair_at e.added j).1 w (pair_there e.added j h))

-- an edge that comes ends at a node
pub added_ends : (g g2 : Graph) (e : EffectLists) (j : ℕ) → AreEffects g g2 e → IsGraph g2 → j < length e.added → IsTrue (is_live g2 (pair_at e.added j).1)
added_ends g g2 e j w graph h =
    graph.onto (pair_at e.added j).0 (pair_at e.added j).1 (added_there g g2 e (pair_at e.added j).0 (pair_at e.added j).1 w (pair_there e.added j h))

within_front : (es : List (ℕ × ℕ)) (j u v : ℕ) → has_pair (take j es) u v ≡ true → has_pair es u v ≡ true
within_front [] j u v h = absurd (none j (sym h))
  where
    none : (j : ℕ) → true ≡ has_pair (take j []) u v → ⊥
    none zero e = true≢false e
    none (suc j) e = true≢false e
within_front (x ∷ es) zero u v h = absurd (true≢false (sym h))
within_front (x ∷ es) (suc j) u v h = elim (cases_Bool (same_pair (u, v) x)) [
  | inl on ↦ ap (λ b. b || has_pair es u v) on
  | inr off ↦ ap (λ b. b || has_pair es u v) off ∙ within_front es j u v (sym (ap (λ b. b || has_pair (take j es) u v) off) ∙ h)
]

-- while edges come, each edge so far is one of the second graph
pub within_after : (g g2 : Graph) (e : EffectLists) (j u v : ℕ) → AreEffects g g2 e → has_edge (with_edges (without_edges g e.lost) (take j e.added)) u v ≡ true → has_edge g2 u v ≡ true
within_after g g2 e j u v w h =
    elim (or_cases (has_pair (take j e.added) u v) (has_edge (without_edges g e.lost) u v) (sym (edge_there (without_edges g e.lost) (take j e.added) u v) ∙ h)) [
      | inl added ↦ added_there g g2 e u v w (within_front e.added j u v added)
      | inr left ↦ (left_in_both g g2 e u v w left).1
    ]
