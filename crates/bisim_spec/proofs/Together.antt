-- Nodes in one block, and blocks that are counted as one.
use Rattle.std.proofs.Common.{◌≡◌, ◌≢◌, ℕ, ◌<◌, ◌⊎◌, List, length, Option, Some, None, IsSome, is_some, refl, sym, ◌∙◌, ap, arith, inl, inr, cond}
use Rattle.std.specs.Prelude.{nat_eq}
use Rattle.std.proofs.lemmas.Bool.{cases_lt, both_ways}
use Rattle.std.proofs.lemmas.List.{get_or-map, get_or_past, length-map}
use Rattle.std.proofs.lemmas.Bool.Decides.{eqb_tells}
use Rattle.graph_spec.specs.Shapes.{Shape}
use Rattle.graph_spec.specs.Members.{at}
use Rattle.bisim_spec.specs.Partitions.{Together, IsPartition}
use Rattle.bisim_spec.specs.Stability.{merged, merged_at}
use Rattle.bisim_spec.proofs.Bisimilar.{some_of, none_or_some, is_some_at}

-- a number with a block is below the length
pub block_below : (block : List (Option ℕ)) (n : ℕ) → IsSome (at block n) → n < length block
block_below block n h = elim (cases_lt n (length block)) [
  | inl below ↦ below
  | inr past ↦ absurd (both_ways (is_some (at block n)) (ap is_some (get_or_past block n None past)) h)
]

pub together_sym : (block : List (Option ℕ)) (u v : ℕ) → Together block u v → Together block v u
together_sym block u v t = (t.0, t.2, t.1)

pub together_trans : (block : List (Option ℕ)) (u v w : ℕ) → Together block u v → Together block v w → Together block u w
together_trans block u v w t k = (t.0, t.1, let e = t.2 in let f = k.1 in let g = k.2 in let same : k.0 ≡ t.0 = cc in g ∙ ap Some same)

pub together_some : (block : List (Option ℕ)) (u v : ℕ) → Together block u v → IsSome (at block u)
together_some block u v t = is_some_at (at block u) t.0 t.1

-- a node that is in one block with a node of block b is of block b
pub together_at : (block : List (Option ℕ)) (u v b : ℕ) → Together block u v → at block u ≡ Some b → at block v ≡ Some b
together_at block u v b t e = let f = t.1 in let g = t.2 in cc

-- two nodes are in one block, or not
pub together_or_not : (block : List (Option ℕ)) (u v : ℕ) → IsSome (at block u) → IsSome (at block v)
    → Together block u v ⊎ ((a : ℕ) × (b : ℕ) × (at block u ≡ Some a) × (at block v ≡ Some b) × (a ≢ b))
together_or_not block u v hu hv =
    let a = some_of (at block u) hu in
    let b = some_of (at block v) hv in
    elim (eqb_tells a.0 b.0) [
      | inl same ↦ inl (a.0, a.1, b.1 ∙ ap Some (sym same.1))
      | inr apart ↦ inr (a.0, b.0, a.1, b.1, apart.1)
    ]

-- the block of a node once b is replaced by a
pub at_merged : (a b : ℕ) (block : List (Option ℕ)) (n : ℕ) → at (merged a b block) n ≡ merged_at a b (at block n)
at_merged a b block n = elim (cases_lt n (length block)) [
  | inl below ↦ get_or-map (merged_at a b) block n None None below
  | inr past ↦
      (let e : at block n ≡ None = get_or_past block n None past in
      let l = length-map block (merged_at a b) in
      let f : at (merged a b block) n ≡ None = get_or_past (merged a b block) n None (omega (arith, l, past)) in
      f ∙ sym (ap (merged_at a b) e))
]

-- nodes in one block stay so
pub merged_keeps : (a b : ℕ) (block : List (Option ℕ)) (u v : ℕ) → Together block u v → Together (merged a b block) u v
merged_keeps a b block u v t =
    (cond (nat_eq t.0 b) a t.0, at_merged a b block u ∙ ap (merged_at a b) t.1, at_merged a b block v ∙ ap (merged_at a b) t.2)

-- a node of a or of b is then of a
pub merged_a : (a b : ℕ) (block : List (Option ℕ)) (u : ℕ) → at block u ≡ Some a → at (merged a b block) u ≡ Some a
merged_a a b block u e = at_merged a b block u ∙ ap (merged_at a b) e ∙ elim (eqb_tells a b) [ inl t ↦ (rw t.0 refl) | inr d ↦ (rw d.0 refl) ]

pub merged_b : (a b : ℕ) (block : List (Option ℕ)) (u : ℕ) → at block u ≡ Some b → at (merged a b block) u ≡ Some a
merged_b a b block u e = at_merged a b block u ∙ ap (merged_at a b) e ∙ elim (eqb_tells b b) [ inl t ↦ (rw t.0 refl) | inr d ↦ absurd (d.1 refl) ]

-- nodes that are then in one block were so before, or one is of a and the other of b
pub merged_cases : (a b : ℕ) (block : List (Option ℕ)) (u v : ℕ) → Together (merged a b block) u v
    → Together block u v ⊎ ((at block u ≡ Some a) × (at block v ≡ Some b)) ⊎ ((at block u ≡ Some b) × (at block v ≡ Some a))
merged_cases a b block u v t = by (at block u) refl (at block v) refl
  where
    by : (x : Option ℕ) → at block u ≡ x → (y : Option ℕ) → at block v ≡ y
        → Together block u v ⊎ ((at block u ≡ Some a) × (at block v ≡ Some b)) ⊎ ((at block u ≡ Some b) × (at block v ≡ Some a))
    by None ex y ey = absurd (let e = at_merged a b block u ∙ ap (merged_at a b) ex in let f = t.1 in cc)
    by (Some c) ex None ey = absurd (let e = at_merged a b block v ∙ ap (merged_at a b) ey in let f = t.2 in cc)
    by (Some c) ex (Some d) ey =
        let e : Some (cond (nat_eq c b) a c) ≡ Some t.0 = sym (ap (merged_at a b) ex) ∙ sym (at_merged a b block u) ∙ t.1 in
        let f : Some (cond (nat_eq d b) a d) ≡ Some t.0 = sym (ap (merged_at a b) ey) ∙ sym (at_merged a b block v) ∙ t.2 in
        let g : cond (nat_eq c b) a c ≡ cond (nat_eq d b) a d = cc in
        elim (eqb_tells c b) [
          | inl ct ↦ elim (eqb_tells d b) [
            | inl dt ↦ (let cb = ct.1 in let db = dt.1 in inl (c, ex, ey ∙ ap Some (db ∙ sym cb)))
            | inr df ↦ (let h : a ≡ d = rw (ct.0, df.0) at g in inr (inr (ex ∙ ap Some ct.1, ey ∙ ap Some (sym h))))
          ]
          | inr cf ↦ elim (eqb_tells d b) [
            | inl dt ↦ (let h : c ≡ a = rw (cf.0, dt.0) at g in inr (inl (ex ∙ ap Some h, ey ∙ ap Some dt.1)))
            | inr df ↦ (let h : c ≡ d = rw (cf.0, df.0) at g in inl (c, ex, ey ∙ ap Some (sym h)))
          ]
        ]

-- a partition is one still
pub merged_partition : (s : Shape) (a b : ℕ) (block : List (Option ℕ)) → IsPartition s block → IsPartition s (merged a b block)
merged_partition s a b block p = record {
  live = λ n h. let c = some_of (at block n) (p.live n h) in rw (at_merged a b block n, c.1) refl;
  only = λ n h. p.only n (elim (none_or_some (at block n)) [
    | inl e ↦ absurd (let o = some_of (at (merged a b block) n) h in let f = at_merged a b block n ∙ ap (merged_at a b) e in let g = o.1 in cc)
    | inr (c, e) ↦ is_some_at (at block n) c e
  ]);
}
