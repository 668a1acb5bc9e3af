-- What the search costs.
use Rattle.std.proofs.Common.{◌≡◌, ℕ, zero, suc, ◌+◌, ◌*◌, ◌<◌, ◌≤◌, List, length, sym, ◌∙◌, arith, inl, inr, true, Bool, cond, take}
use Rattle.std.specs.Prelude.{nat_eq}
use Rattle.std.specs.List.{IsDistinct, sum_by}
use Rattle.std.proofs.lemmas.List.Sums.{sum_by-take-le}
use Rattle.std.proofs.lemmas.Bool.{cases_Bool, or_cases}
use Rattle.graph_spec.specs.Members.{has}
use Rattle.graph_spec.specs.Graphs.{Graph, IsGraph, is_live}
use Rattle.graph_spec.specs.Shapes.{Shape, IsNode, IsShape, shape_of}
use Rattle.graph_spec.proofs.GraphLaws.{is_shape}
use Rattle.bisim_spec.specs.Below.{sum_below}
use Rattle.bisim_spec.specs.declared.sides.Sides.{Sides}
use Rattle.bisim_spec.specs.declared.sides.Sides.TheVariants as sides
use Rattle.bisim_spec.specs.SidedLevels.{spread, affected}
use Rattle.bisim_spec.proofs.Reached.{within_cases, within_more}
use Rattle.change_spec.specs.Bounds as bound
use Rattle.change_spec.specs.Steps.{Step, after}
use Rattle.change_spec.specs.Places.{CanMakeAll}
use Rattle.change_spec.specs.Costs.{cost}
use Rattle.change_spec.proofs.Accepted.{applied_can, accepted_all}
use Rattle.change_spec.proofs.RoundBounds.{search_most, round_most}
use Rattle.graph_steps.specs.NewChanges.{IsNew}
use Rattle.graph_update.specs.PendingChanges.{Pending, graph_after}
use Rattle.affected_nodes.specs.ReadCosts.{children_cost, spread_cost, side_count}
use Rattle.one_spec.proofs.Sums.{sum_listed}
use Rattle.affected_nodes.proofs.Distances.{IsSearched}

-- where a node can change another one's level, that is a node
spread_end : (which : Sides) (s : Shape) → IsShape s → (p n : ℕ) → (spread which s).edge p n ≡ true → IsNode s n
spread_end sides.Parents s shape p n e = shape.onto p n e
spread_end sides.Both s shape p n e = elim (or_cases (s.edge p n) (s.edge n p) e) [ inl h ↦ shape.onto p n h | inr h ↦ shape.from n p h ]

-- what is affected is no number past the graph
pub within_below : (which : Sides) (s : Shape) (from : ℕ → Bool) → IsShape s → ((t : ℕ) → from t ≡ true → t < s.size) → (i n : ℕ) → affected which s from i n ≡ true → n < s.size
within_below which s from shape allocated zero n h = allocated n h
within_below which s from shape allocated (suc i) n h = elim (within_cases (spread which s) from i n h) [
  | inl e ↦ within_below which s from shape allocated i n e
  | inr (p, a, e) ↦ shape.below n (spread_end which s shape p n e)
]

-- The search starts at nodes of the graph that a change leaves.
pub record StartsAt (a : Pending) (from : ℕ → Bool) : Type 0 where
  pub before : IsGraph a.before
  pub left : IsGraph (graph_after a)
  pub can : CanMakeAll a.change a.before
  pub live : (t : ℕ) → from t ≡ true → is_live (graph_after a) t ≡ true

pub starts : (a : Pending) (from : ℕ → Bool) → IsNew a.change a.before → IsGraph a.before → IsGraph (graph_after a) → ((t : ℕ) → from t ≡ true → is_live (graph_after a) t ≡ true)
    → StartsAt a from
starts a from new before left live = record {
  before = before;
  left = left;
  can = applied_can a.change a.before (graph_after a) new.limits (accepted_all a.change a.before (graph_after a) new.limits new.accepted).1;
  live = live;
}

pub below : (a : Pending) (from : ℕ → Bool) → StartsAt a from → (t : ℕ) → from t ≡ true → t < (shape_of (graph_after a)).size
below a from w t h = (is_shape (graph_after a) w.left).below t (w.live t h)

-- what is affected is live
pub within_live : (which : Sides) (a : Pending) (from : ℕ → Bool) (i n : ℕ) → StartsAt a from → affected which (shape_of (graph_after a)) from i n ≡ true → is_live (graph_after a) n ≡ true
within_live which a from zero n w h = w.live n h
within_live which a from (suc i) n w h = elim (within_cases (spread which (shape_of (graph_after a))) from i n h) [
  | inl e ↦ within_live which a from i n w e
  | inr (p, near, on) ↦ spread_end which (shape_of (graph_after a)) (is_shape (graph_after a) w.left) p n on
]

-- a sum whose double is two sums
half_sums : (n : ℕ) (f g h : ℕ → ℕ) → ((i : ℕ) → 2 * f i ≡ g i + h i) → 2 * sum_below n f ≡ sum_below n g + sum_below n h
half_sums zero f g h e = omega arith
half_sums (suc n) f g h e = (let a = e n in let r = half_sums n f g h e in omega (arith, a, r))

-- where parents and children are read, that is a round and a search, halved
both_most : (c : List Step) (g : Graph) (inside : ℕ → Bool) → IsGraph g → CanMakeAll c g → ((n : ℕ) → inside n ≡ true → is_live (after c g) n ≡ true)
    → sum_below (length (after c g).allocated) (λ n. cond (inside n) (bound.children_cost g (after c g) n + bound.parents_cost g (after c g) n) 0) ≤ 2 * cost c g inside
both_most c g inside graph can live =
    let g2 = after c g in
    let round = round_most c g inside graph can live in
    let search = search_most c g inside graph can live in
    let whole = half_sums (length g2.allocated) (λ n. cond (inside n) (bound.children_cost g g2 n + bound.parents_cost g g2 n) 0) (λ n. cond (inside n) (bound.round_cost g g2 n) 0)
    (λ n. cond (inside n) (bound.children_cost g g2 n) 0) (λ n. elim (cases_Bool (inside n)) [ inr off ↦ rw off (omega arith) | inl on ↦ rw on (omega arith) ]) in
    omega (arith, round, search, whole)

spread_most : (which : Sides) (a : Pending) (inside : ℕ → Bool) → IsGraph a.before → CanMakeAll a.change a.before → ((n : ℕ) → inside n ≡ true → is_live (graph_after a) n ≡ true)
    → sum_below (length (graph_after a).allocated) (λ n. cond (inside n) (spread_cost which a n) 0) ≤ side_count which * cost a.change a.before inside
spread_most sides.Parents a inside graph can live =
    let most = search_most a.change a.before inside graph can live in
    let once : sum_below (length (graph_after a).allocated) (λ n. cond (inside n) (children_cost a n) 0) ≤ 1 * cost a.change a.before inside = omega (arith, most) in
    once
spread_most sides.Both a inside graph can live = both_most a.change a.before inside graph can live

-- the neighbours of distinct nodes within so many edges
pub read_most : (which : Sides) (a : Pending) (from : ℕ → Bool) (k : ℕ) (nodes : List ℕ) → StartsAt a from → IsDistinct nat_eq nodes
    → ((n : ℕ) → has nodes n ≡ true → affected which (shape_of (graph_after a)) from k n ≡ true)
    → sum_by (spread_cost which a) nodes ≤ side_count which * cost a.change a.before (affected which (shape_of (graph_after a)) from k)
read_most which a from k nodes w once within =
    let s = shape_of (graph_after a) in
    let listed = sum_listed s.size (affected which s from k) (spread_cost which a) nodes once (λ n h.
    (within_below which s from (is_shape (graph_after a) w.left) (below a from w) k n (within n h), within n h)) in
    let most = spread_most which a (affected which s from k) w.before w.can (λ n h. within_live which a from k n w h) in
    omega (arith, listed, most)

-- the neighbours of the nodes that were met
pub met_most : (which : Sides) (a : Pending) (targets met ends : List ℕ) (i place k : ℕ) → StartsAt a (has targets)
    → IsSearched (spread which (shape_of (graph_after a))) (has targets) i place met ends → i ≤ k
    → sum_by (spread_cost which a) met ≤ side_count which * cost a.change a.before (affected which (shape_of (graph_after a)) (has targets) k)
met_most which a targets met ends i place k w p l =
    read_most which a (has targets) k met w p.once (λ n h. within_more (spread which (shape_of (graph_after a))) (has targets) i k n l (sym (p.found n) ∙ h))

-- of the first nodes
pub first_most : (which : Sides) (a : Pending) (targets met ends : List ℕ) (i place k : ℕ) → StartsAt a (has targets)
    → IsSearched (spread which (shape_of (graph_after a))) (has targets) i place met ends → i ≤ k
    → sum_by (spread_cost which a) (take place met) ≤ side_count which * cost a.change a.before (affected which (shape_of (graph_after a)) (has targets) k)
first_most which a targets met ends i place k w p l =
    let all = met_most which a targets met ends i place k w p l in
    let part = sum_by-take-le (spread_cost which a) met place in
    omega (arith, all, part)
