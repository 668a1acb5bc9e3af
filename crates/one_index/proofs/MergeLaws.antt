-- Two blocks of a stable partition with members can be merged exactly where they have one label, and the same parent blocks
-- where they count as one.
use Rattle.std.proofs.Common.{◌≡◌, ◌≢◌, ℕ, ◌<◌, ◌⊎◌, ◌↔◌, List, Option, Some, IsTrue, IsFalse, length, refl, sym, ◌∙◌, ap, subst, arith, inl, inr, true, false, Bool, ltb-true, lt-ltb}
use Rattle.std.specs.Prelude.{nat_eq, ◌||◌, ◌&&◌, is_some, slice_get}
use Rattle.std.proofs.lemmas.Bool.{cases_Bool, cases_lt, and_parts, and_from, or_cases, or_left, or_right, both_ways}
use Rattle.std.proofs.lemmas.Bool.Decides.{Decides-eqb}
use Rattle.graph_spec.specs.Graphs.{Graph, IsGraph, label_of}
use Rattle.graph_spec.specs.Shapes.{IsParent, shape_of}
use Rattle.graph_spec.specs.Members.{at}
use Rattle.graph_spec.proofs.GraphLaws.{is_shape}
use Rattle.bisim_spec.specs.Bisimilarity.{Covers}
use Rattle.bisim_spec.specs.Partitions.{Together}
use Rattle.bisim_spec.specs.Stability.{Mergeable, Minimal, merged}
use Rattle.bisim_spec.specs.Supports.{Adjacent}
use Rattle.bisim_spec.specs.IndexGraphs.{SupportTable, support_at}
use Rattle.bisim_spec.proofs.Bisimilar.{some_of, is_some_at}
use Rattle.bisim_spec.proofs.Stable.{stable_label, stable_parents}
use Rattle.bisim_spec.proofs.EdgeSupports.{support_adjacent, adjacent_support}
use Rattle.bisim_spec.proofs.Together.{together_at, merged_keeps, merged_a, merged_b, merged_cases, merged_partition}
use Rattle.bisim_spec.proofs.MergeableBlocks.{mergeable_from, merges_from}
use Rattle.quotient.specs.Quotients.{Quotient, is_adjacent, view_of}
use Rattle.quotient.specs.QuotientNeighbours.{is_supported}
use Rattle.quotient.specs.DigraphLaws.{below_span}
use Rattle.one_index.specs.StableViews.{IsStableView}
use Rattle.one_index.specs.MergeTest.{is_parent_of_one, IsCovered, CanMerge, HasNoMergeable}
use Rattle.one_index.proofs.LabelPlaces.{one_place}

-- x is one of the two
IsOf : ℕ → ℕ → ℕ → Type 0
IsOf c d x = (x ≡ c) ⊎ (x ≡ d)

-- x and z are the same, where c and d count as one
abbrev pub AsOne : ℕ → ℕ → ℕ → ℕ → Type 0
AsOne c d x z = (x ≡ z) ⊎ (((x ≡ c) ⊎ (x ≡ d)) × ((z ≡ c) ⊎ (z ≡ d)))

swapped : {A B : Type 0} → A ⊎ B → B ⊎ A
swapped (inl a) = inr a
swapped (inr b) = inl b

pub one_swapped : (c d x z : ℕ) → AsOne c d x z → AsOne d c x z
one_swapped c d x z (inl e) = inl e
one_swapped c d x z (inr (a, b)) = inr (swapped a, swapped b)

is_of : (c d x : ℕ) → (nat_eq x c || nat_eq x d) ≡ true → (x ≡ c) ⊎ (x ≡ d)
is_of c d x h = elim (or_cases (nat_eq x c) (nat_eq x d) h) [
  | inl e ↦ inl ((Decides-eqb x c).0 e)
  | inr e ↦ inr ((Decides-eqb x d).0 e)
]

of_is : (c d x : ℕ) → (x ≡ c) ⊎ (x ≡ d) → (nat_eq x c || nat_eq x d) ≡ true
of_is c d x (inl e) = or_left (nat_eq x c) (nat_eq x d) ((Decides-eqb x c).1 e)
of_is c d x (inr e) = or_right (nat_eq x c) (nat_eq x d) ((Decides-eqb x d).1 e)

-- what is a parent of the two as one is some block that has support
parent_some : (t : SupportTable) (c d x : ℕ) → is_parent_of_one t c d x ≡ true → (z : ℕ) × (is_supported t z d ≡ true) × AsOne c d x z
parent_some t c d x h = elim (cases_Bool (nat_eq x c || nat_eq x d)) [
  | inl on ↦
      (let both : (is_supported t c d || is_supported t d d) ≡ true = rw on at h in
      elim (or_cases (is_supported t c d) (is_supported t d d) both) [
        | inl j ↦ (c, j, inr (is_of c d x on, inl refl))
        | inr j ↦ (d, j, inr (is_of c d x on, inr refl))
      ])
  | inr off ↦ (let one : is_supported t x d ≡ true = rw off at h in (x, one, inl refl))
]

either : (t : SupportTable) (c d z : ℕ) → is_supported t z d ≡ true → (z ≡ c) ⊎ (z ≡ d) → (is_supported t c d || is_supported t d d) ≡ true
either t c d z j (inl e) = or_left (is_supported t c d) (is_supported t d d) (subst (λ y. is_supported t y d ≡ true) e j)
either t c d z j (inr e) = or_right (is_supported t c d) (is_supported t d d) (subst (λ y. is_supported t y d ≡ true) e j)

some_of_two : (c d x z : ℕ) → (x ≡ c) ⊎ (x ≡ d) → AsOne c d x z → (z ≡ c) ⊎ (z ≡ d)
some_of_two c d x z h (inl e) = subst (λ y. (y ≡ c) ⊎ (y ≡ d)) e h
some_of_two c d x z h (inr (a, b)) = b

some_parent : (t : SupportTable) (c d x z : ℕ) → is_supported t z d ≡ true → AsOne c d x z → is_parent_of_one t c d x ≡ true
some_parent t c d x z j one = elim (cases_Bool (nat_eq x c || nat_eq x d)) [
  | inl on ↦ rw on (either t c d z j (some_of_two c d x z (is_of c d x on) one))
  | inr off ↦ rw off (same off one)
]
  where
    same : (nat_eq x c || nat_eq x d) ≡ false → AsOne c d x z → is_supported t x d ≡ true
    same off (inl e) = subst (λ y. is_supported t y d ≡ true) (sym e) j
    same off (inr (a, b)) = absurd (both_ways (nat_eq x c || nat_eq x d) off (of_is c d x a))

-- nodes whose blocks are one, once a and b are, are together then
one_in : (block : List (Option ℕ)) (a b p r x z : ℕ) → at block p ≡ Some x → at block r ≡ Some z → AsOne a b x z → Together (merged a b block) p r
one_in block a b p r x z hp hr (inl e) = merged_keeps a b block p r (x, hp, hr ∙ ap Some (sym e))
one_in block a b p r x z hp hr (inr (ex, ez)) = (a, of_a p x hp ex, of_a r z hr ez)
  where
    of_a : (n y : ℕ) → at block n ≡ Some y → (y ≡ a) ⊎ (y ≡ b) → at (merged a b block) n ≡ Some a
    of_a n y h (inl e) = merged_a a b block n (h ∙ ap Some e)
    of_a n y h (inr e) = merged_b a b block n (h ∙ ap Some e)

-- and the other way round
one_out : (block : List (Option ℕ)) (a b p r x : ℕ) → at block p ≡ Some x → Together (merged a b block) p r → (z : ℕ) × (at block r ≡ Some z) × AsOne a b x z
one_out block a b p r x hp t = elim (merged_cases a b block p r t) [
  | inl same ↦ (x, together_at block p r x same hp, inl refl)
  | inr (inl (ep, er)) ↦ (let e : x ≡ a = cc in (b, er, inr (inl e, inr refl)))
  | inr (inr (ep, er)) ↦ (let e : x ≡ b = cc in (a, er, inr (inr e, inl refl)))
]

merged_swapped : (a b : ℕ) (block : List (Option ℕ)) (u v : ℕ) → Together (merged a b block) u v → Together (merged b a block) u v
merged_swapped a b block u v t = elim (merged_cases a b block u v t) [
  | inl same ↦ merged_keeps b a block u v same
  | inr (inl (eu, ev)) ↦ (b, merged_b b a block u eu, merged_a b a block v ev)
  | inr (inr (eu, ev)) ↦ (b, merged_a b a block u eu, merged_b b a block v ev)
]

pub merge_swapped : (q : Quotient) (a b : ℕ) → CanMerge q a b → CanMerge q b a
merge_swapped q a b m = record { label = sym m.label; there = m.back; back = m.there }

module _ (g : Graph) (q : Quotient) (graph : IsGraph g) (viewed : IsStableView g (view_of q)) where
  supported_adjacent : (x y : ℕ) → is_supported q.supports x y ≡ true → Adjacent (shape_of g) q.blocks.block_of x y
  supported_adjacent x y h =
      let same = viewed.supports x y in
      let some : 0 < support_at q.supports x y = ltb-true 0 (support_at q.supports x y) h in
      support_adjacent g q.blocks.block_of x y (omega (arith, same, some))

  adjacent_supported : (x y : ℕ) → Adjacent (shape_of g) q.blocks.block_of x y → is_supported q.supports x y ≡ true
  adjacent_supported x y j =
      let same = viewed.supports x y in
      let some = adjacent_support g q.blocks.block_of x y j in
      lt-ltb 0 (support_at q.supports x y) (omega (arith, same, some))

  block_labelled : (n b : ℕ) → at q.blocks.block_of n ≡ Some b → is_some (at q.blocks.labels b) ≡ true
  block_labelled n b h = let l = viewed.labelled n b h in is_some_at (at q.blocks.labels b) l.0 l.2

  adjacent_is : (x y : ℕ) → Adjacent (shape_of g) q.blocks.block_of x y → is_adjacent q x y ≡ true
  adjacent_is x y j =
      and_from (is_supported q.supports x y) (is_some (at q.blocks.labels x) && is_some (at q.blocks.labels y)) (adjacent_supported x y j)
      (and_from (is_some (at q.blocks.labels x)) (is_some (at q.blocks.labels y)) (block_labelled j.0 x j.3) (block_labelled j.1 y j.4))

  is_adjacent_by : (x y : ℕ) → is_adjacent q x y ≡ true → Adjacent (shape_of g) q.blocks.block_of x y
  is_adjacent_by x y h = supported_adjacent x y (and_parts (is_supported q.supports x y) (is_some (at q.blocks.labels x) && is_some (at q.blocks.labels y)) h).0

  -- covered parent blocks cover the parents of each two members
  covers_from : (c d u v : ℕ) (R : ℕ → ℕ → Type 0) → at q.blocks.block_of u ≡ Some c → at q.blocks.block_of v ≡ Some d → IsCovered q c d
      → ((p r x z : ℕ) → at q.blocks.block_of p ≡ Some x → at q.blocks.block_of r ≡ Some z → AsOne c d x z → R p r)
      → Covers (IsParent (shape_of g)) R u v
  covers_from c d u v R hu hv covered into p e =
      let shape = is_shape g graph in
      let block = q.blocks.block_of in
      let x = some_of (at block p) (viewed.stable.partition.live p (shape.from p u e)) in
      let z = parent_some q.supports c d x.0 (covered.each x.0 (adjacent_is x.0 c (p, u, e, x.1, hu))) in
      let k = supported_adjacent z.0 d z.1 in
      let r = stable_parents (shape_of g) block viewed.stable k.1 v (d, k.4, hv) k.0 k.2 in
      (r.0, r.1, into p r.0 x.0 z.0 x.1 (together_at block k.0 r.0 z.0 r.2 k.3) z.2)

  covered_from : (c d v : ℕ) (R : ℕ → ℕ → Type 0) → at q.blocks.block_of v ≡ Some d
      → ((u : ℕ) → at q.blocks.block_of u ≡ Some c → Covers (IsParent (shape_of g)) R u v)
      → ((p r x : ℕ) → at q.blocks.block_of p ≡ Some x → R p r → (z : ℕ) × (at q.blocks.block_of r ≡ Some z) × AsOne c d x z)
      → IsCovered q c d
  covered_from c d v R hv covers out = record {
    each = λ x j.
        let k = is_adjacent_by x c j in
        let r = covers k.1 k.4 k.0 k.2 in
        let z = out k.0 r.0 x k.3 r.2 in
        some_parent q.supports c d x z.0 (adjacent_supported z.0 d (r.0, v, r.1, z.1, hv)) z.2;
  }

  same_label : (a b u v : ℕ) → at q.blocks.block_of u ≡ Some a → at q.blocks.block_of v ≡ Some b → at q.blocks.labels a ≡ at q.blocks.labels b → label_of g u ≡ label_of g v
  same_label a b u v hu hv e =
      let l = viewed.labelled u a hu in
      let m = viewed.labelled v b hv in
      let numbers : Some l.0 ≡ Some m.0 = sym l.2 ∙ e ∙ m.2 in
      let number : l.0 ≡ m.0 = cc in
      l.4 ∙ sym l.3 ∙ ap (slice_get g.seen) number ∙ m.3 ∙ sym m.4

  label_same : (a b u v : ℕ) → at q.blocks.block_of u ≡ Some a → at q.blocks.block_of v ≡ Some b → label_of g u ≡ label_of g v → at q.blocks.labels a ≡ at q.blocks.labels b
  label_same a b u v hu hv e =
      let l = viewed.labelled u a hu in
      let m = viewed.labelled v b hv in
      let texts : Some l.1 ≡ Some m.1 = sym l.4 ∙ e ∙ m.4 in
      let place : slice_get g.seen l.0 ≡ Some m.1 = l.3 ∙ texts in
      l.2 ∙ ap Some (one_place g.seen l.0 m.0 m.1 graph.distinct place m.3) ∙ sym m.2

  -- blocks with one label and the same parent blocks can be merged,
  pub can_mergeable : (a b u v : ℕ) → at q.blocks.block_of u ≡ Some a → at q.blocks.block_of v ≡ Some b → CanMerge q a b → Mergeable (shape_of g) q.blocks.block_of a b
  can_mergeable a b u v hu hv alike =
      let block = q.blocks.block_of in
      mergeable_from (shape_of g) block a b u v viewed.stable hu hv (record {
        label = same_label a b u v hu hv alike.label;
        parents = record {
          there = covers_from a b u v (Together (merged a b block)) hu hv alike.there (one_in block a b);
          back = covers_from b a v u (Together (merged a b block)) hv hu alike.back (λ p r x z hp hr one. one_in block a b p r x z hp hr (one_swapped b a x z one));
        };
      })

  -- and no others
  pub mergeable_can : (a b u v : ℕ) → at q.blocks.block_of u ≡ Some a → at q.blocks.block_of v ≡ Some b → Mergeable (shape_of g) q.blocks.block_of a b → CanMerge q a b
  mergeable_can a b u v hu hv can =
      let block = q.blocks.block_of in
      record {
        label = label_same a b u v hu hv (merges_from (shape_of g) block a b u v can hu hv).label;
        there = covered_from a b v (Together (merged a b block)) hv (λ n hn. (merges_from (shape_of g) block a b n v can hn hv).parents.there) (one_out block a b);
        back = covered_from b a u (Together (merged a b block)) hu (λ n hn. (merges_from (shape_of g) block a b u n can hu hn).parents.back)
            (λ p r x hp t. let z = one_out block a b p r x hp t in (z.0, z.1, one_swapped a b x z.0 z.2));
      }

  -- where one of them has no members, the partition stays as stable as it is
  pub empty_merge : (a b : ℕ) → ((u : ℕ) → at q.blocks.block_of u ≢ Some a) ⊎ ((v : ℕ) → at q.blocks.block_of v ≢ Some b) → Mergeable (shape_of g) q.blocks.block_of a b
  empty_merge a b empty =
      let s = shape_of g in
      let block = q.blocks.block_of in
      record {
        partition = merged_partition s a b block viewed.stable.partition;
        label = λ u v nu nv t. stable_label s block viewed.stable u v (before u v t);
        parents = λ u v nu nv t p e. let r = stable_parents s block viewed.stable u v (before u v t) p e in (r.0, r.1, merged_keeps a b block p r.0 r.2);
      }
    where
      none : (u v : ℕ) → at q.blocks.block_of u ≡ Some a → at q.blocks.block_of v ≡ Some b → ⊥
      none u v hu hv = elim empty [ inl first ↦ first u hu | inr second ↦ second v hv ]

      before : (u v : ℕ) → Together (merged a b q.blocks.block_of) u v → Together q.blocks.block_of u v
      before u v t = elim (merged_cases a b q.blocks.block_of u v t) [
        | inl same ↦ same
        | inr (inl (hu, hv)) ↦ absurd (none u v hu hv)
        | inr (inr (hu, hv)) ↦ absurd (none v u hv hu)
      ]

  -- an answer that tells that of two blocks tells whether they can be merged
  pub known_mergeable : (a b u v : ℕ) → at q.blocks.block_of u ≡ Some a → at q.blocks.block_of v ≡ Some b → (r : Bool) → (IsTrue r → CanMerge q a b)
      → (IsFalse r → CanMerge q a b → ⊥) → IsTrue r ↔ Mergeable (shape_of g) q.blocks.block_of a b
  known_mergeable a b u v hu hv r there back = (
    λ h. can_mergeable a b u v hu hv (there h),
    λ can. elim (cases_Bool r) [ inl on ↦ on | inr off ↦ absurd (back off (mergeable_can a b u v hu hv can)) ],
  )

  -- where no block can be merged with one behind it, no two can be
  pub minimal_from : ((x : ℕ) → x < length q.blocks.labels → HasNoMergeable q x) → Minimal (shape_of g) q.blocks.block_of
  minimal_from none = record {
    apart = λ u v a b hu hv ne can.
        let alike = mergeable_can a b u v hu hv can in
        let la = block_labelled u a hu in
        let lb = block_labelled v b hv in
        elim (cases_lt a b) [
          | inl less ↦ (none a (below_span q a la)).none u v b la lb less hu hv alike
          | inr more ↦ (
              let apart = ne in
              let less : b < a = omega (arith, more, apart) in
              (none b (below_span q b lb)).none v u a lb la less hv hu (merge_swapped q a b alike))
        ];
  }

  pub not_minimal : (u v a b : ℕ) → a < b → at q.blocks.block_of u ≡ Some a → at q.blocks.block_of v ≡ Some b → CanMerge q a b → Minimal (shape_of g) q.blocks.block_of → ⊥
  not_minimal u v a b less hu hv alike minimal = minimal.apart u v a b hu hv (λ e. absurd (omega (arith, less, e))) (can_mergeable a b u v hu hv alike)
