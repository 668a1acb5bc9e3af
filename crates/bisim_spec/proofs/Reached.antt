-- What is within a distance, and what is reached, by edges and by walks.
use Rattle.std.proofs.Common.{◌≡◌, ℕ, zero, suc, ◌+◌, ◌≤◌, ◌⊎◌, List, [], ◌∷◌, ◌++◌, length, IsTrue, refl, subst, arith, inl, inr, true, false, Bool, ◌&&◌}
use Rattle.std.specs.Prelude.{nat_eq}
use Rattle.std.proofs.lemmas.Bool.{cases_lt, and_parts, and_from, or_cases, or_left, or_right, false_from_ne_true, both_ways}
use Rattle.std.proofs.lemmas.Bool.Decides.{Decides-eqb}
use Rattle.std.proofs.lemmas.List.{length-append}
use Rattle.graph_spec.specs.Shapes.{Shape, IsNode, IsShape}
use Rattle.graph_spec.specs.Walks.{Leads}
use Rattle.graph_spec.proofs.WalkLemmas.{leads_on}
use Rattle.bisim_spec.specs.Below.{any_below}
use Rattle.bisim_spec.specs.Reach.{within_distance, reach}
use Rattle.bisim_spec.proofs.BelowLaws.{any_get, any_from}
use Rattle.bisim_spec.proofs.Bisimilar.{some_of}
use Rattle.bisim_spec.proofs.GrowingSets.{comes_to_end}

-- one edge on
pub within_step : (s : Shape) → IsShape s → (from : ℕ → Bool) (j p n : ℕ) → within_distance s from j p ≡ true → IsTrue (s.edge p n) → within_distance s from (suc j) n ≡ true
within_step s shape from j p n h e =
    or_right (within_distance s from j n) (any_below s.size (λ p. within_distance s from j p && s.edge p n))
    (any_from s.size (λ p. within_distance s from j p && s.edge p n) p (shape.below p (shape.from p n e)) (and_from (within_distance s from j p) (s.edge p n) h e))

-- what is within one more edge is so already, or a child of what is
pub within_cases : (s : Shape) (from : ℕ → Bool) (j n : ℕ) → within_distance s from (suc j) n ≡ true
    → (within_distance s from j n ≡ true) ⊎ ((p : ℕ) × (within_distance s from j p ≡ true) × IsTrue (s.edge p n))
within_cases s from j n h = elim (or_cases (within_distance s from j n) (any_below s.size (λ p. within_distance s from j p && s.edge p n)) h) [
  | inl e ↦ inl e
  | inr t ↦ inr (
      let p = any_get s.size (λ p. within_distance s from j p && s.edge p n) t in
      let a = and_parts (within_distance s from j p.0) (s.edge p.0 n) p.2 in
      (p.0, a.0, a.1))
]

pub within_next : (s : Shape) (from : ℕ → Bool) (j n : ℕ) → within_distance s from j n ≡ true → within_distance s from (suc j) n ≡ true
within_next s from j n h = or_left (within_distance s from j n) (any_below s.size (λ p. within_distance s from j p && s.edge p n)) h

pub within_more : (s : Shape) (from : ℕ → Bool) (j i n : ℕ) → j ≤ i → within_distance s from j n ≡ true → within_distance s from i n ≡ true
within_more s from j zero n l h = let e : j ≡ zero = omega (arith, l) in subst (λ m. within_distance s from m n ≡ true) e h
within_more s from j (suc i) n l h = elim (cases_lt j (suc i)) [
  | inl below ↦ within_next s from i n (within_more s from j i n (omega (arith, below)) h)
  | inr past ↦ (let e : j ≡ suc i = omega (arith, l, past) in subst (λ m. within_distance s from m n ≡ true) e h)
]

-- children of what is within j edges are so too
abbrev pub IsClosed : Shape → (ℕ → Bool) → ℕ → Type 0
IsClosed s from j = (p n : ℕ) → within_distance s from j p ≡ true → IsTrue (s.edge p n) → within_distance s from j n ≡ true

within_closed : (s : Shape) (from : ℕ → Bool) (j : ℕ) → IsClosed s from j → (i n : ℕ) → within_distance s from i n ≡ true → within_distance s from j n ≡ true
within_closed s from j closed zero n h = within_more s from 0 j n (omega arith) h
within_closed s from j closed (suc i) n h = elim (within_cases s from i n h) [
  | inl e ↦ within_closed s from j closed i n e
  | inr (p, a, e) ↦ closed p n (within_closed s from j closed i p a) e
]

-- what is within any number of edges is reached
pub within_reach : (s : Shape) → IsShape s → (from : ℕ → Bool) (i n : ℕ) → within_distance s from i n ≡ true → reach s from n ≡ true
within_reach s shape from i n h =
    let j = comes_to_end (within_distance s from) (λ i k. within_next s from i k) s.size in
    let closed : IsClosed s from j.0 = λ p n h e. j.2 n (shape.below n (shape.onto p n e)) (within_step s shape from j.0 p n h e) in
    within_more s from j.0 s.size n j.1 (within_closed s from j.0 closed i n h)

pub reach_step : (s : Shape) → IsShape s → (from : ℕ → Bool) (p n : ℕ) → reach s from p ≡ true → IsTrue (s.edge p n) → reach s from n ≡ true
reach_step s shape from p n h e = within_reach s shape from (suc s.size) n (within_step s shape from s.size p n h e)

pub reach_start : (s : Shape) (from : ℕ → Bool) (n : ℕ) → from n ≡ true → reach s from n ≡ true
reach_start s from n h = within_more s from 0 s.size n (omega arith) h

-- parents of what is out of reach are out of reach
pub unreached_parent : (s : Shape) → IsShape s → (from : ℕ → Bool) (p n : ℕ) → reach s from n ≡ false → IsTrue (s.edge p n) → reach s from p ≡ false
unreached_parent s shape from p n h e = false_from_ne_true (reach s from p) (λ t. both_ways (reach s from n) h (reach_step s shape from p n t e))

-- a walk of so many edges at most
pub record Walk (s : Shape) (u v edges : ℕ) : Type 0 where
  pub first : List ℕ
  pub rest : List (List ℕ)
  pub leads : Leads s u (first ∷ rest) v
  pub few : length rest ≤ edges

walk_on : (s : Shape) (u p v j : ℕ) → IsShape s → Walk s u p j → IsTrue (s.edge p v) → Walk s u v (suc j)
walk_on s u p v j shape w e =
    let l = some_of (s.label v) (shape.onto p v e) in
    let long = length-append w.rest (l.0 ∷ []) in
    let few = w.few in
    record {
      first = w.first;
      rest = w.rest ++ l.0 ∷ [];
      leads = leads_on s u w.first w.rest p v l.0 w.leads e l.1;
      few = omega (arith, long, few);
    }

-- a walk leads to what is within reach of a node
pub within_walk : (s : Shape) → IsShape s → (j u v : ℕ) → IsNode s u → within_distance s (nat_eq u) j v ≡ true → Walk s u v j
within_walk s shape zero u v node h =
    let l = some_of (s.label u) node in
    record { first = l.0; rest = []; leads = (l.1, (Decides-eqb u v).0 h); few = omega arith }
within_walk s shape (suc j) u v node h = elim (within_cases s (nat_eq u) j v h) [
  | inl e ↦ (let w = within_walk s shape j u v node e in let few = w.few in record { first = w.first; rest = w.rest; leads = w.leads; few = omega (arith, few) })
  | inr (p, a, e) ↦ walk_on s u p v j shape (within_walk s shape j u p node a) e
]

-- with so many edges in all
walk_within_from : (s : Shape) → IsShape s → (from : ℕ → Bool) (i k u : ℕ) (t : List ℕ) (ts : List (List ℕ)) (v : ℕ) → i + length ts ≡ k
    → within_distance s from i u ≡ true → Leads s u (t ∷ ts) v → within_distance s from k v ≡ true
walk_within_from s shape from i k u t [] v e h w =
    let same : i ≡ k = omega (arith, e) in
    subst (λ x. within_distance s from k x ≡ true) w.1 (subst (λ m. within_distance s from m u ≡ true) same h)
walk_within_from s shape from i k u t (r ∷ ts) v e h w =
    walk_within_from s shape from (suc i) k w.1 r ts v (omega (arith, e)) (within_step s shape from i u w.1 h w.2) w.3

-- and what a walk leads to is within reach
pub walk_within : (s : Shape) → IsShape s → (j u v : ℕ) → Walk s u v j → within_distance s (nat_eq u) j v ≡ true
walk_within s shape j u v w =
    within_more s (nat_eq u) (length w.rest) j v w.few
    (walk_within_from s shape (nat_eq u) 0 (length w.rest) u w.first w.rest v (omega arith) ((Decides-eqb u u).1 refl) w.leads)
