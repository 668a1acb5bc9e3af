-- When two blocks of a stable partition can be merged, and what follows where none can.
use Rattle.std.proofs.Common.{◌≡◌, ℕ, zero, suc, ◌<◌, List, Option, Some, sym, ◌∙◌, arith, inl, inr, ◌↔◌}
use Rattle.graph_spec.specs.Shapes.{Shape, IsParent, IsShape}
use Rattle.bisim_spec.specs.Bisimilarity.{Covers, Matched, IsBisimulation}
use Rattle.graph_spec.specs.Members.{at}
use Rattle.bisim_spec.specs.Partitions.{Together}
use Rattle.bisim_spec.specs.Stability.{Stable, Mergeable, Minimal, merged}
use Rattle.bisim_spec.proofs.Bisimilar.{some_of, label_node, label_same, label_sym}
use Rattle.bisim_spec.proofs.Stable.{stable_label, stable_parents}
use Rattle.bisim_spec.proofs.Together.{together_sym, together_trans, together_at, together_or_not, merged_keeps, merged_a, merged_b, merged_cases, merged_partition}

-- u and v have one label, and their parents are in the same blocks once a and b are counted as one
pub record Merges (s : Shape) (block : List (Option ℕ)) (a b u v : ℕ) : Type 0 where
  pub label : s.label u ≡ s.label v
  pub parents : Matched (IsParent s) (Together (merged a b block)) u v

pub merges_sym : (s : Shape) (block : List (Option ℕ)) (a b u v : ℕ) → Merges s block a b u v → Merges s block a b v u
merges_sym s block a b u v m = record { label = sym m.label; parents = record { there = m.parents.back; back = m.parents.there } }

-- of nodes that are together with x and with y, where x and y merge
carry : (s : Shape) (block : List (Option ℕ)) (a b u x y v : ℕ) → Stable s block → Together block u x → Merges s block a b x y → Together block y v
    → Covers (IsParent s) (Together (merged a b block)) u v
carry s block a b u x y v st ux xy yv p e =
    let q = stable_parents s block st u x ux p e in
    let r = xy.parents.there q.0 q.1 in
    let t = stable_parents s block st y v yv r.0 r.1 in
    let m = merged a b block in (
      t.0,
      t.1,
      together_trans m p r.0 t.0 (together_trans m p q.0 r.0 (merged_keeps a b block p q.0 q.2) r.2) (merged_keeps a b block r.0 t.0 t.2),
    )

-- In a stable partition two blocks can be merged where a member of the one merges with a member of the other,
pub mergeable_from : (s : Shape) (block : List (Option ℕ)) (a b x y : ℕ) → Stable s block → at block x ≡ Some a → at block y ≡ Some b
    → Merges s block a b x y → Mergeable s block a b
mergeable_from s block a b x y st hx hy m = record {
  partition = merged_partition s a b block st.partition;
  label = λ u v nu nv t. elim (merged_cases a b block u v t) [
    | inl same ↦ stable_label s block st u v same
    | inr (inl (eu, ev)) ↦ stable_label s block st u x (a, eu, hx) ∙ m.label ∙ stable_label s block st y v (b, hy, ev)
    | inr (inr (eu, ev)) ↦ stable_label s block st u y (b, eu, hy) ∙ sym m.label ∙ stable_label s block st x v (a, hx, ev)
  ];
  parents = λ u v nu nv t. elim (merged_cases a b block u v t) [
    | inl same ↦ (λ p e. let q = stable_parents s block st u v same p e in (q.0, q.1, merged_keeps a b block p q.0 q.2))
    | inr (inl (eu, ev)) ↦ carry s block a b u x y v st (a, eu, hx) m (b, hy, ev)
    | inr (inr (eu, ev)) ↦ carry s block a b u y x v st (b, eu, hy) (merges_sym s block a b x y m) (a, hx, ev)
  ];
}

-- and only where all members do
pub merges_from : (s : Shape) (block : List (Option ℕ)) (a b x y : ℕ) → Mergeable s block a b → at block x ≡ Some a → at block y ≡ Some b
    → Merges s block a b x y
merges_from s block a b x y can hx hy =
    let m = merged a b block in
    let one : Together m x y = (a, merged_a a b block x hx, merged_b a b block y hy) in
    record {
      label = stable_label s m can x y one;
      parents = record { there = stable_parents s m can x y one; back = stable_parents s m can y x (together_sym m x y one) };
    }

-- Where ranks rise along edges, and no two blocks of a stable partition can be merged, nodes are together that a
-- bisimulation relates.
pub related_together : (s : Shape) (block : List (Option ℕ)) (R : ℕ → ℕ → Type 0) (rank : ℕ → ℕ) → Stable s block → Minimal s block → IsBisimulation s R
    → ((p u : ℕ) → IsParent s p u → rank p < rank u) → (k u v : ℕ) → rank u < k → R u v → Together block u v
related_together s block R rank st min sim rises zero u v few r = absurd (omega (arith, few))
related_together s block R rank st min sim rises (suc k) u v few r =
    let l = sim.label u v r in
    elim (together_or_not block u v (st.partition.live u (label_node s u v l)) (st.partition.live v (label_node s v u (label_sym s u v l)))) [
      | inl same ↦ same
      | inr (a, b, eu, ev, apart) ↦ absurd (min.apart u v a b eu ev apart (mergeable_from s block a b u v st eu ev (record {
        label = label_same s u v l;
        parents = record {
          there = λ p e.
              let q = sim.there u v p r e in
              let less = rises p u e in
              (q.0, q.1, merged_keeps a b block p q.0 (related_together s block R rank st min sim rises k p q.0 (omega (arith, few, less)) q.2));
          back = λ q e.
              let p = sim.back u v q r e in
              let less = rises p.0 u p.1 in
              (p.0, p.1, merged_keeps a b block q p.0 (together_sym block p.0 q (related_together s block R rank st min sim rises k p.0 q (omega (arith, few, less)) p.2)));
        };
      })))
    ]

-- x is, once a and b are counted as one, the block of a parent of some member of c
abbrev pub IsParentBlock : Shape → List (Option ℕ) → ℕ → ℕ → ℕ → ℕ → Type 0
IsParentBlock s block a b c x = (p : ℕ) × (n : ℕ) × IsParent s p n × (at block n ≡ Some c) × (at (merged a b block) p ≡ Some x)

-- Two blocks have one label, and the same parent blocks once they are counted as one.
pub record MergeAsBlocks (s : Shape) (block : List (Option ℕ)) (a b : ℕ) : Type 0 where
  pub label : (u v : ℕ) → at block u ≡ Some a → at block v ≡ Some b → s.label u ≡ s.label v
  pub there : (x : ℕ) → IsParentBlock s block a b a x → IsParentBlock s block a b b x
  pub back : (x : ℕ) → IsParentBlock s block a b b x → IsParentBlock s block a b a x

-- the parents of one member are in the parent blocks of another block, where the blocks have the same
parents_among : (s : Shape) (block : List (Option ℕ)) (a b c d u v : ℕ) → IsShape s → Stable s block → at block u ≡ Some c → at block v ≡ Some d
    → ((x : ℕ) → IsParentBlock s block a b c x → IsParentBlock s block a b d x) → Covers (IsParent s) (Together (merged a b block)) u v
parents_among s block a b c d u v shape st hu hv same p e =
    let m = merged a b block in
    let x = some_of (at m p) ((merged_partition s a b block st.partition).live p (shape.from p u e)) in
    let q = same x.0 (p, u, e, hu, x.1) in
    let r = stable_parents s block st q.1 v (d, q.3, hv) q.0 q.2 in
    (r.0, r.1, (x.0, x.1, together_at m q.0 r.0 x.0 (merged_keeps a b block q.0 r.0 r.2) q.4))

parent_blocks : (s : Shape) (block : List (Option ℕ)) (a b c d v : ℕ) → at block v ≡ Some d
    → ((u : ℕ) → at block u ≡ Some c → Covers (IsParent s) (Together (merged a b block)) u v) → (x : ℕ) → IsParentBlock s block a b c x → IsParentBlock s block a b d x
parent_blocks s block a b c d v hv covers x (p, n, e, hn, hx) =
    let q = covers n hn p e in
    (q.0, v, q.1, hv, together_at (merged a b block) p q.0 x q.2 hx)

-- In a stable partition two blocks with members can be merged exactly so.
pub mergeable_blocks : (s : Shape) (block : List (Option ℕ)) (a b u v : ℕ) → IsShape s → Stable s block → at block u ≡ Some a → at block v ≡ Some b
    → Mergeable s block a b ↔ MergeAsBlocks s block a b
mergeable_blocks s block a b u v shape st hu hv = (
  λ can. record {
    label = λ x y hx hy. (merges_from s block a b x y can hx hy).label;
    there = parent_blocks s block a b a b v hv (λ x hx. (merges_from s block a b x v can hx hv).parents.there);
    back = parent_blocks s block a b b a u hu (λ y hy. (merges_from s block a b u y can hu hy).parents.back);
  },
  λ same. mergeable_from s block a b u v st hu hv (record {
    label = same.label u v hu hv;
    parents = record {
      there = parents_among s block a b a b u v shape st hu hv same.there;
      back = parents_among s block a b b a v u shape st hv hu same.back;
    };
  }),
)
