-- From the number of nodes on, all levels of bisimilarity are one.
use Rattle.std.proofs.Common.{◌≡◌, ℕ, zero, suc, ◌<◌, ◌≤◌, is_some, sym, ◌∙◌, arith, inl, inr, Bool}
use Rattle.std.specs.Prelude.{Decides}
use Rattle.std.proofs.lemmas.Bool.{cases_lt, cases_Bool, both_ways, false_from_ne_true}
use Rattle.graph_spec.specs.Shapes.{Shape, IsNode, IsShape}
use Rattle.bisim_spec.specs.Below.{count_below}
use Rattle.bisim_spec.specs.Bisimilarity.{IsBisimulation, node_count, Bis, Both, Bisim, FB}
use Rattle.bisim_spec.specs.Tests.{bis, both}
use Rattle.bisim_spec.proofs.BelowLaws.{count_same}
use Rattle.bisim_spec.proofs.FinerLevels.{Levels, IsNext, steady}
use Rattle.bisim_spec.proofs.Bisimilar.{matched_map, bis_sym, bis_trans, bis_self, bis_label, bis_node, both_sym, both_trans, both_self, both_node}
use Rattle.bisim_spec.proofs.BisimilarTests.{bis_decides, both_decides}

-- level i of the relation lies within the next one
pub record IsSettled (R : ℕ → ℕ → ℕ → Type 0) (i : ℕ) : Type 0 where
  pub within : (u v : ℕ) → R i u v → R (suc i) u v

-- A relation by levels: each is an equivalence of the nodes and lies within the one below, and where one lies within the
-- next, so does the next.
pub record IsFamily (s : Shape) (R : ℕ → ℕ → ℕ → Type 0) : Type 0 where
  pub symm : (i u v : ℕ) → R i u v → R i v u
  pub trans : (i u v w : ℕ) → R i u v → R i v w → R i u w
  pub self : (i u : ℕ) → IsNode s u → R i u u
  pub node : (i u v : ℕ) → R i u v → IsNode s u
  pub finer : (i u v : ℕ) → R (suc i) u v → R i u v
  pub settles : (i : ℕ) → IsSettled R i → IsSettled R (suc i)

pub bis_family : (s : Shape) → IsShape s → IsFamily s (Bis s)
bis_family s shape = record {
  symm = bis_sym s;
  trans = bis_trans s;
  self = bis_self s shape;
  node = bis_node s;
  finer = λ i u v h. h.0;
  settles = λ i w. record { within = λ u v h. (h, matched_map w.within h.1) };
}

pub both_family : (s : Shape) → IsShape s → IsFamily s (Both s)
both_family s shape = record {
  symm = both_sym s;
  trans = both_trans s;
  self = both_self s shape;
  node = both_node s;
  finer = λ i u v h. h.0;
  settles = λ i w. record { within = λ u v h. (h, matched_map w.within h.1, matched_map w.within h.2) };
}

settled_from : (s : Shape) (R : ℕ → ℕ → ℕ → Type 0) → IsFamily s R → (j i : ℕ) → j ≤ i → IsSettled R j → IsSettled R i
settled_from s R f j zero h w = rw (let e : zero ≡ j = omega (arith, h) in e) w
settled_from s R f j (suc i) h w = elim (cases_lt j (suc i)) [
  | inl below ↦ f.settles i (settled_from s R f j i (omega (arith, below)) w)
  | inr past ↦ (let e : suc i ≡ j = omega (arith, h, past) in rw e w)
]

-- a higher level lies within a lower one
pub falls_to : (s : Shape) (R : ℕ → ℕ → ℕ → Type 0) → IsFamily s R → (j i : ℕ) → j ≤ i → (u v : ℕ) → R i u v → R j u v
falls_to s R f j zero h u v r = rw (let e : j ≡ zero = omega (arith, h) in e) r
falls_to s R f j (suc i) h u v r = elim (cases_lt j (suc i)) [
  | inl below ↦ falls_to s R f j i (omega (arith, below)) u v (f.finer i u v r)
  | inr past ↦ (let e : j ≡ suc i = omega (arith, h, past) in rw e r)
]

-- a settled level lies within all
pub all_levels : (s : Shape) (R : ℕ → ℕ → ℕ → Type 0) → IsFamily s R → (n : ℕ) → IsSettled R n → (i u v : ℕ) → R n u v → R i u v
all_levels s R f n w zero u v r = falls_to s R f zero n (omega arith) u v r
all_levels s R f n w (suc i) u v r = elim (cases_lt n (suc i)) [
  | inl below ↦ (settled_from s R f n i (omega (arith, below)) w).within u v (all_levels s R f n w i u v r)
  | inr past ↦ falls_to s R f (suc i) n past u v r
]

-- a test of the relation relates just the nodes to themselves
self_test : (s : Shape) (R : ℕ → ℕ → ℕ → Type 0) (r : ℕ → ℕ → ℕ → Bool) → ((i u v : ℕ) → Decides (r i u v) (R i u v)) → IsFamily s R → (i n : ℕ) → r i n n ≡ is_some (s.label n)
self_test s R r decides f i n = elim (cases_Bool (is_some (s.label n))) [
  | inl here ↦ (decides i n n).1 (f.self i n here) ∙ sym here
  | inr none ↦ false_from_ne_true (r i n n) (λ t. both_ways (is_some (s.label n)) none (f.node i n n ((decides i n n).0 t))) ∙ sym none
]

test_levels : (s : Shape) (R : ℕ → ℕ → ℕ → Type 0) (r : ℕ → ℕ → ℕ → Bool) → ((i u v : ℕ) → Decides (r i u v) (R i u v)) → IsFamily s R → Levels r
test_levels s R r decides f = record {
  symm = λ i u v h. (decides i v u).1 (f.symm i u v ((decides i u v).0 h));
  trans = λ i u v w h k. (decides i u w).1 (f.trans i u v w ((decides i u v).0 h) ((decides i v w).0 k));
  self = λ i n. self_test s R r decides f i n ∙ sym (self_test s R r decides f 0 n);
  finer = λ i u v h. (decides i u v).1 (f.finer i u v ((decides (suc i) u v).0 h));
}

-- a level that the tests find to be the next one is settled
next_settled : (s : Shape) (R : ℕ → ℕ → ℕ → Type 0) (r : ℕ → ℕ → ℕ → Bool) → IsShape s → ((i u v : ℕ) → Decides (r i u v) (R i u v)) → IsFamily s R
    → (i : ℕ) → IsNext r s.size i → IsSettled R i
next_settled s R r shape decides f i next = record {
  within = λ u v h.
      let below : (m n : ℕ) → R i m n → m < s.size = λ m n k. shape.below m (f.node i m n k) in
      (decides (suc i) u v).0 (next u v (below u v h) (below v u (f.symm i u v h)) ((decides i u v).1 h));
}

-- the level of the number of nodes is settled
pub family_settled : (s : Shape) (R : ℕ → ℕ → ℕ → Type 0) (r : ℕ → ℕ → ℕ → Bool) → IsShape s → ((i u v : ℕ) → Decides (r i u v) (R i u v)) → IsFamily s R
    → IsSettled R (node_count s)
family_settled s R r shape decides f =
    let j = steady r (test_levels s R r decides f) s.size in
    let count : count_below s.size (λ m. r 0 m m) ≡ node_count s = count_same s.size (λ m. r 0 m m) (λ m. is_some (s.label m)) (λ k l. self_test s R r decides f 0 k) in
    let few = j.1 in
    settled_from s R f j.0 (node_count s) (omega (arith, count, few)) (next_settled s R r shape decides f j.0 j.2)

pub bisim_settled : (s : Shape) → IsShape s → IsSettled (Bis s) (node_count s)
bisim_settled s shape = family_settled s (Bis s) (bis s) shape (bis_decides s shape) (bis_family s shape)

pub fb_settled : (s : Shape) → IsShape s → IsSettled (Both s) (node_count s)
fb_settled s shape = family_settled s (Both s) (both s) shape (both_decides s shape) (both_family s shape)

-- fully bisimilar nodes are bisimilar at each level
pub bisim_each : (s : Shape) → IsShape s → (i u v : ℕ) → Bisim s u v → Bis s i u v
bisim_each s shape = all_levels s (Bis s) (bis_family s shape) (node_count s) (bisim_settled s shape)

pub fb_each : (s : Shape) → IsShape s → (i u v : ℕ) → FB s u v → Both s i u v
fb_each s shape = all_levels s (Both s) (both_family s shape) (node_count s) (fb_settled s shape)

-- Full bisimilarity is a bisimulation, and each bisimulation lies within it.
pub bisim_bisimulation : (s : Shape) → IsShape s → IsBisimulation s (Bisim s)
bisim_bisimulation s shape = record {
  label = bis_label s (node_count s);
  there = λ u v p r e. ((bisim_settled s shape).within u v r).1.there p e;
  back = λ u v q r e.
      let p = ((bisim_settled s shape).within u v r).1.back q e in
      (p.0, p.1, bis_sym s (node_count s) q p.0 p.2);
}

pub bisimulation_within : (s : Shape) (R : ℕ → ℕ → Type 0) → IsBisimulation s R → (i u v : ℕ) → R u v → Bis s i u v
bisimulation_within s R sim zero u v r = sim.label u v r
bisimulation_within s R sim (suc i) u v r = (
  bisimulation_within s R sim i u v r,
  record {
    there = λ p e. let q = sim.there u v p r e in (q.0, q.1, bisimulation_within s R sim i p q.0 q.2);
    back = λ q e. let p = sim.back u v q r e in (p.0, p.1, bis_sym s i p.0 q (bisimulation_within s R sim i p.0 q p.2));
  },
)
