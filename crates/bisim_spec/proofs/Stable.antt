-- Full bisimilarity is the coarsest stable partition, and no two of its blocks can be merged.
use Rattle.std.proofs.Common.{◌≡◌, ℕ, zero, suc, List, Option, refl, sym, ◌∙◌}
use Rattle.graph_spec.specs.Shapes.{Shape, IsParent, IsChild, IsShape}
use Rattle.bisim_spec.specs.Bisimilarity.{SameLabel, Matched, IsBisimulation, Covers, node_count, Bis, Both, Bisim, FB}
use Rattle.bisim_spec.specs.Partitions.{Together, Agrees}
use Rattle.bisim_spec.specs.Stability.{Stable, StableBoth, Minimal, merged}
use Rattle.bisim_spec.proofs.Bisimilar.{some_of, label_same, bis_label, bis_node, bis_sym, both_label, both_node, both_sym}
use Rattle.bisim_spec.proofs.Settled.{bisimulation_within, bisim_each, bisim_settled, fb_each, fb_settled}
use Rattle.bisim_spec.proofs.Together.{together_sym, together_some, merged_a, merged_b}

-- what a stable partition says of its pairs

pub stable_label : (s : Shape) (block : List (Option ℕ)) → Stable s block → (u v : ℕ) → Together block u v → s.label u ≡ s.label v
stable_label s block st u v t = st.label u v refl refl t

pub stable_parents : (s : Shape) (block : List (Option ℕ)) → Stable s block → (u v : ℕ) → Together block u v → Covers (IsParent s) (Together block) u v
stable_parents s block st u v t = st.parents u v refl refl t

-- the blocks of a stable partition are a bisimulation
pub stable_bisimulation : (s : Shape) (block : List (Option ℕ)) → Stable s block → IsBisimulation s (Together block)
stable_bisimulation s block st = record {
  label = λ u v t. let l = some_of (s.label u) (st.partition.only u (together_some block u v t)) in (l.0, l.1, sym (stable_label s block st u v t) ∙ l.1);
  there = λ u v p t e. stable_parents s block st u v t p e;
  back = λ u v q t e.
      let p = stable_parents s block st v u (together_sym block u v t) q e in
      (p.0, p.1, together_sym block q p.0 p.2);
}

-- a stable partition lies within each level of bisimilarity
pub stable_within : (s : Shape) (block : List (Option ℕ)) → Stable s block → (i u v : ℕ) → Together block u v → Bis s i u v
stable_within s block st = bisimulation_within s (Together block) (stable_bisimulation s block st)

-- one that is stable both ways lies within each level of bisimilarity both ways
pub stable_both_within : (s : Shape) (block : List (Option ℕ)) → StableBoth s block → (i u v : ℕ) → Together block u v → Both s i u v
stable_both_within s block st zero u v t = stable_within s block st.stable 0 u v t
stable_both_within s block st (suc i) u v t = (
  stable_both_within s block st i u v t,
  record {
    there = λ p e. let q = stable_parents s block st.stable u v t p e in (q.0, q.1, stable_both_within s block st i p q.0 q.2);
    back = λ p e. let q = stable_parents s block st.stable v u (together_sym block u v t) p e in (q.0, q.1, stable_both_within s block st i p q.0 q.2);
  },
  record {
    there = λ c e. let d = st.children u v t c e in (d.0, d.1, stable_both_within s block st i c d.0 d.2);
    back = λ c e. let d = st.children v u (together_sym block u v t) c e in (d.0, d.1, stable_both_within s block st i c d.0 d.2);
  },
)

-- a partition into the classes of a relation with one label and matched parents is stable
stable_from : (s : Shape) (block : List (Option ℕ)) (R : ℕ → ℕ → Type 0) → IsShape s → Agrees s block R → ((u v : ℕ) → R u v → SameLabel s u v)
    → ((u v : ℕ) → R u v → Matched (IsParent s) R u v) → Stable s block
stable_from s block R shape a label parents = record {
  partition = a.partition;
  label = λ u v nu nv t. label_same s u v (label u v (a.related u v t));
  parents = λ u v nu nv t p e.
      let q = (parents u v (a.related u v t)).there p e in
      (q.0, q.1, a.grouped p q.0 (shape.from p u e) (shape.from q.0 v q.1) q.2);
}

-- and both ways with matched children
stable_both_from : (s : Shape) (block : List (Option ℕ)) (R : ℕ → ℕ → Type 0) → IsShape s → Agrees s block R → ((u v : ℕ) → R u v → SameLabel s u v)
    → ((u v : ℕ) → R u v → Matched (IsParent s) R u v) → ((u v : ℕ) → R u v → Matched (IsChild s) R u v) → StableBoth s block
stable_both_from s block R shape a label parents children = record {
  stable = stable_from s block R shape a label parents;
  children = λ u v t c e.
      let d = (children u v (a.related u v t)).there c e in
      (d.0, d.1, a.grouped c d.0 (shape.onto u c e) (shape.onto v d.0 d.1) d.2);
}

-- full bisimilarity is stable
pub bisim_stable : (s : Shape) (block : List (Option ℕ)) → IsShape s → Agrees s block (Bisim s) → Stable s block
bisim_stable s block shape a =
    stable_from s block (Bisim s) shape a (bis_label s (node_count s)) (λ u v r. ((bisim_settled s shape).within u v r).1)

-- and so both ways
pub fb_stable : (s : Shape) (block : List (Option ℕ)) → IsShape s → Agrees s block (FB s) → StableBoth s block
fb_stable s block shape a =
    stable_both_from s block (FB s) shape a (both_label s (node_count s))
    (λ u v r. ((fb_settled s shape).within u v r).1) (λ u v r. ((fb_settled s shape).within u v r).2)

-- no two blocks of it can be merged
pub bisim_minimal : (s : Shape) (block : List (Option ℕ)) → IsShape s → Agrees s block (Bisim s) → Minimal s block
bisim_minimal s block shape a = record {
  apart = λ u v b c eu ev ne can.
      let one : Together (merged b c block) u v = (b, merged_a b c block u eu, merged_b b c block v ev) in
      let related = stable_within s (merged b c block) can (node_count s) u v one in
      let t = a.grouped u v (a.partition.only u (together_some block u u (b, eu, eu))) (a.partition.only v (together_some block v v (c, ev, ev))) related in
      let f = t.1 in
      let g = t.2 in
      ne (let same : b ≡ c = cc in same);
}

-- a stable partition that agrees with some level is full bisimilarity
pub stable_full : (s : Shape) (block : List (Option ℕ)) → IsShape s → (i : ℕ) → Stable s block → Agrees s block (Bis s i) → Agrees s block (Bisim s)
stable_full s block shape i st a = record {
  partition = a.partition;
  related = stable_within s block st (node_count s);
  grouped = λ u v nu nv r. a.grouped u v nu nv (bisim_each s shape i u v r);
}

pub stable_both_full : (s : Shape) (block : List (Option ℕ)) → IsShape s → (i : ℕ) → StableBoth s block → Agrees s block (Both s i) → Agrees s block (FB s)
stable_both_full s block shape i st a = record {
  partition = a.partition;
  related = stable_both_within s block st (node_count s);
  grouped = λ u v nu nv r. a.grouped u v nu nv (fb_each s shape i u v r);
}

-- a partition that agrees with a level and with the next one is stable
pub next_stable : (s : Shape) (block : List (Option ℕ)) → IsShape s → (i : ℕ) → Agrees s block (Bis s i) → Agrees s block (Bis s (suc i)) → Stable s block
next_stable s block shape i a above =
    stable_from s block (Bis s i) shape a (bis_label s i)
    (λ u v r. (above.related u v (a.grouped u v (bis_node s i u v r) (bis_node s i v u (bis_sym s i u v r)) r)).1)

pub next_stable_both : (s : Shape) (block : List (Option ℕ)) → IsShape s → (i : ℕ) → Agrees s block (Both s i) → Agrees s block (Both s (suc i)) → StableBoth s block
next_stable_both s block shape i a above =
    let next : (u v : ℕ) → Both s i u v → Both s (suc i) u v =
    λ u v r. above.related u v (a.grouped u v (both_node s i u v r) (both_node s i v u (both_sym s i u v r)) r)
    in
    stable_both_from s block (Both s i) shape a (both_label s i) (λ u v r. (next u v r).1) (λ u v r. (next u v r).2)
