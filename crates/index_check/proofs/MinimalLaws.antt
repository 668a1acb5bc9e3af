-- When no two blocks of a stable partition can be merged, told by keys.
use Rattle.std.proofs.Common.{◌≡◌, ◌≢◌, ℕ, List, [], ◌∷◌, Option, Some, None, IsSome, IsTrue, Bool, true, false, ◌&&◌, not, true≢false, refl, sym, ◌∙◌, ap, inl, inr}
use Rattle.std.specs.Prelude.{nat_eq, option_map}
use Rattle.std.proofs.lemmas.Bool.{and_parts, cases_Bool, both_ways}
use Rattle.std.proofs.lemmas.Bool.Decides.{eqb_tells}
use Rattle.graph_spec.specs.Shapes.{Shape, IsParent, IsShape}
use Rattle.graph_spec.specs.Members.{at, is_this}
use Rattle.bisim_spec.specs.Below.{any_below}
use Rattle.bisim_spec.specs.Bisimilarity.{Covers}
use Rattle.bisim_spec.specs.Partitions.{Together}
use Rattle.bisim_spec.specs.Stability.{Stable, Minimal, merged}
use Rattle.bisim_spec.specs.Tests.{together}
use Rattle.bisim_spec.proofs.BelowLaws.{any_get, any_from}
use Rattle.bisim_spec.proofs.Bisimilar.{some_of, is_some_at}
use Rattle.bisim_spec.proofs.MergeableBlocks.{Merges, mergeable_from, merges_from}
use Rattle.bisim_spec.proofs.Stable.{stable_label}
use Rattle.bisim_spec.proofs.StabilityTests.{together_decides}
use Rattle.bisim_spec.proofs.Together.{together_sym, together_at, together_or_not, merged_keeps, merged_a, merged_b, merged_cases}
use Rattle.round_refinement.specs.NumberedShapes.{shape_by_number}
use Rattle.bisim_spec.specs.Refinement.{Refines}
use Rattle.index_check.specs.ComparedLists.{Determines}
use Rattle.index_check.specs.OuterParents.{is_outer_parent, AreInnerLabels, MatchesOuter, TellsByOuter}
use Rattle.index_check.specs.ClosedParents.{is_closed_parent}
use Rattle.index_check.proofs.ClosedKeys.{closed_parent, closed_self, closed_cases}

this_is : (a : ℕ) (o : Option ℕ) → is_this a o ≡ true → o ≡ Some a
this_is a None h = absurd (true≢false (sym h))
this_is a (Some b) h = elim (eqb_tells a b) [ inl t ↦ ap Some (sym t.1) | inr d ↦ absurd (both_ways (nat_eq a b) d.0 h) ]

is_this_at : (a : ℕ) (o : Option ℕ) → o ≡ Some a → is_this a o ≡ true
is_this_at a o e = ap (is_this a) e ∙ elim (eqb_tells a a) [ inl t ↦ t.0 | inr d ↦ absurd (d.1 refl) ]

both_true : (x y : Bool) → x ≡ true → y ≡ true → (x && y) ≡ true
both_true x y e f = ap (λ b. b && y) e ∙ f

-- some parent of the node is in the block
abbrev parent_in : Shape → List (Option ℕ) → ℕ → ℕ → Bool
parent_in s block v a = any_below s.size (λ p. s.edge p v && is_this a (at block p))

in_from : (s : Shape) (block : List (Option ℕ)) (p v a : ℕ) → IsShape s → IsParent s p v → at block p ≡ Some a → parent_in s block v a ≡ true
in_from s block p v a shape e h =
    any_from s.size (λ p. s.edge p v && is_this a (at block p)) p (shape.below p (shape.from p v e)) (both_true (s.edge p v) (is_this a (at block p)) e (is_this_at a (at block p) h))

in_get : (s : Shape) (block : List (Option ℕ)) (v a : ℕ) → parent_in s block v a ≡ true → (p : ℕ) × IsParent s p v × (at block p ≡ Some a)
in_get s block v a h =
    let k = any_get s.size (λ p. s.edge p v && is_this a (at block p)) h in
    let parts = and_parts (s.edge k.0 v) (is_this a (at block k.0)) k.2 in
    (k.0, parts.0, this_is a (at block k.0) parts.1)

-- which of two blocks is put in the place of the other makes no difference
swapped : (a b : ℕ) (block : List (Option ℕ)) (u v : ℕ) → Together (merged a b block) u v → Together (merged b a block) u v
swapped a b block u v t = elim (merged_cases a b block u v t) [
  | inl same ↦ merged_keeps b a block u v same
  | inr (inl (eu, ev)) ↦ (b, merged_b b a block u eu, merged_a b a block v ev)
  | inr (inr (eu, ev)) ↦ (b, merged_a b a block u eu, merged_b b a block v ev)
]

merges_swapped : (s : Shape) (block : List (Option ℕ)) (a b u v : ℕ) → Merges s block a b u v → Merges s block b a v u
merges_swapped s block a b u v m = record {
  label = sym m.label;
  parents = record {
    there = λ p e. let q = m.parents.back p e in (q.0, q.1, swapped a b block p q.0 q.2);
    back = λ p e. let q = m.parents.there p e in (q.0, q.1, swapped a b block p q.0 q.2);
  };
}

two_blocks : (block : List (Option ℕ)) (p a b : ℕ) → at block p ≡ Some a → at block p ≡ Some b → a ≡ b
two_blocks block p a b e f = cc

off_from : (s : Shape) (block : List (Option ℕ)) (p n : ℕ) → IsParent s p n → (Together block p n → ⊥) → is_outer_parent block s.edge p n ≡ true
off_from s block p n e apart =
    both_true (s.edge p n) (not (together block p n)) e (elim (cases_Bool (together block p n)) [
      | inl on ↦ absurd (apart ((together_decides block p n).0 on))
      | inr off ↦ ap not off
    ])

off_get : (s : Shape) (block : List (Option ℕ)) (p n : ℕ) → is_outer_parent block s.edge p n ≡ true → IsParent s p n × (Together block p n → ⊥)
off_get s block p n h =
    let parts = and_parts (s.edge p n) (not (together block p n)) h in
    (parts.0, λ t. let on = (together_decides block p n).1 t in true≢false (sym parts.1 ∙ ap not on))

-- parents of u are matched by those of v where neither a nor b is the block of one
plain : (s : Shape) (block : List (Option ℕ)) (a b u v : ℕ) → IsShape s → Covers (IsParent s) (Together (merged a b block)) u v
    → parent_in s block u a ≡ false → parent_in s block u b ≡ false → Covers (IsParent s) (Together block) u v
plain s block a b u v shape covers na nb = λ c e.
    let q = covers c e in
    elim (merged_cases a b block c q.0 q.2) [
      | inl same ↦ (q.0, q.1, same)
      | inr (inl (ec, eq)) ↦ absurd (true≢false (sym (in_from s block c u a shape e ec) ∙ na))
      | inr (inr (ec, eq)) ↦ absurd (true≢false (sym (in_from s block c u b shape e ec) ∙ nb))
    ]

-- the same of those in other blocks, where only the own block is among them
open_parents : (s : Shape) (block : List (Option ℕ)) (a b u v : ℕ) → IsShape s → at block u ≡ Some a → at block v ≡ Some b → Covers (IsParent s) (Together (merged a b block)) u v
    → parent_in s block u b ≡ false → parent_in s block v a ≡ false
    → Covers (λ p n. IsTrue (is_outer_parent block s.edge p n)) (Together block) u v
open_parents s block a b u v shape eu ev covers nb na = λ c h.
    let off = off_get s block c u h in
    let q = covers c off.0 in
    elim (merged_cases a b block c q.0 q.2) [
      | inl same ↦ (
        q.0,
        off_from s block q.0 v q.1 (λ t. (
            let eq = together_at block v q.0 b (together_sym block q.0 v t) ev in
            let ec = together_at block q.0 c b (together_sym block c q.0 same) eq in
            true≢false (sym (in_from s block c u b shape off.0 ec) ∙ nb))),
        same,
      )
      | inr (inl (ec, eq)) ↦ absurd (off.1 (a, ec, eu))
      | inr (inr (ec, eq)) ↦ absurd (true≢false (sym (in_from s block c u b shape off.0 ec) ∙ nb))
    ]

-- a parent in the own block of u is matched by one in that of v
loop_there : (s : Shape) (block : List (Option ℕ)) (a b u v : ℕ) → IsShape s → a ≢ b → Covers (IsParent s) (Together (merged a b block)) u v → parent_in s block v a ≡ false
    → parent_in s block u a ≡ true → parent_in s block v b ≡ true
loop_there s block a b u v shape ne covers na h =
    let c = in_get s block u a h in
    let q = covers c.0 c.1 in
    elim (merged_cases a b block c.0 q.0 q.2) [
      | inl same ↦ absurd (true≢false (sym (in_from s block q.0 v a shape q.1 (together_at block c.0 q.0 a same c.2)) ∙ na))
      | inr (inl (ec, eq)) ↦ in_from s block q.0 v b shape q.1 eq
      | inr (inr (ec, eq)) ↦ absurd (ne (two_blocks block c.0 a b c.2 ec))
    ]

swap_covers : (s : Shape) (block : List (Option ℕ)) (a b u v : ℕ) → Covers (IsParent s) (Together (merged a b block)) u v → Covers (IsParent s) (Together (merged b a block)) u v
swap_covers s block a b u v covers = λ p e. let q = covers p e in (q.0, q.1, swapped a b block p q.0 q.2)

label_of_text : (o : Option ℕ) → IsSome (option_map (λ l. l ∷ []) o) → IsSome o
label_of_text None h = absurd (true≢false (sym h))
label_of_text (Some x) h = refl

text_there : (o : Option ℕ) (x : ℕ) → o ≡ Some x → IsSome (option_map (λ l. l ∷ []) o)
text_there o x e = is_some_at (option_map (λ l. l ∷ []) o) (x ∷ []) (ap (option_map (λ l. l ∷ [])) e)

label_once : (a b : Option ℕ) → option_map (λ x. x ∷ []) a ≡ option_map (λ x. x ∷ []) b → a ≡ b
label_once None None e = refl
label_once None (Some y) e = absurd (cc)
label_once (Some x) None e = absurd (cc)
label_once (Some x) (Some y) e = ap Some (heads x y (let z = e in cc))
  where
    heads : (x y : ℕ) → x ∷ [] ≡ y ∷ [] → x ≡ y
    heads x y e = cc

module _ (size : ℕ) (label : ℕ → Option ℕ) (edge : ℕ → ℕ → Bool) (block labels linked inner next closed : List (Option ℕ)) (shape : IsShape (shape_by_number size label edge))
    (st : Stable (shape_by_number size label edge) block) (is : (n : ℕ) → at labels n ≡ label n) (kin : AreInnerLabels labels label edge linked) (loops : AreInnerLabels block label edge inner)
    (r : Refines (at labels) block edge next) (c : Refines (at linked) block (is_closed_parent block edge) closed) (by_key : Determines next block) (by_closed : Determines closed block)
    (tells : TellsByOuter (at inner) block edge) where
  -- nodes of blocks that can be merged have a label, and it is one
  one_label : (u v a b : ℕ) → at block u ≡ Some a → Merges (shape_by_number size label edge) block a b u v → (x : ℕ) × (label u ≡ Some x) × (label v ≡ Some x)
  one_label u v a b eu m =
      let x = some_of (label u) (label_of_text (label u) (st.partition.only u (is_some_at (at block u) a eu))) in
      (x.0, x.1, sym (label_once (label u) (label v) m.label) ∙ x.1)

  -- where each is a parent of the other, both with their parents are in the same blocks
  closed_case : (p y w a b : ℕ) → IsTrue (edge p y) → at block p ≡ Some a → at block y ≡ Some b → a ≢ b → Merges (shape_by_number size label edge) block a b p y
      → IsTrue (edge w p) → at block w ≡ Some b → ⊥
  closed_case p y w a b e ep ey ne m f ew =
      let s = shape_by_number size label edge in
      let x = one_label p y a b ep m in
      let lw : label w ≡ Some x.0 = label_once (label w) (label y) (stable_label s block st w y (b, ew, ey)) ∙ x.2 in
      let t = c.grouped p y (record {
        one_number = (x.0, kin.every p x.0 w x.1 f (x.0, is w ∙ lw, is p ∙ x.1), kin.every y x.0 p x.2 e (x.0, is p ∙ x.1, is y ∙ x.2));
        neighbours = record {
          there = λ q h. elim (closed_cases block edge q p h) [
            | inl g ↦
                (let k = m.parents.there q g in
                elim (merged_cases a b block q k.0 k.2) [
                  | inl same ↦ (k.0, closed_parent block edge k.0 y k.1, same)
                  | inr (inl (eq, ek)) ↦ (p, closed_parent block edge p y e, (a, eq, ep))
                  | inr (inr (eq, ek)) ↦ (y, closed_self block edge y b ey, (b, eq, ey))
                ])
            | inr (same, some) ↦ (p, closed_parent block edge p y e, (a, ap (at block) same ∙ ep, ep))
          ];
          back = λ q h. elim (closed_cases block edge q y h) [
            | inl g ↦
                (let k = m.parents.back q g in
                elim (merged_cases a b block q k.0 k.2) [
                  | inl same ↦ (k.0, closed_parent block edge k.0 p k.1, same)
                  | inr (inl (eq, ek)) ↦ (p, closed_self block edge p a ep, (a, eq, ep))
                  | inr (inr (eq, ek)) ↦ (w, closed_parent block edge w p f, (b, eq, ew))
                ])
            | inr (same, some) ↦ (w, closed_parent block edge w p f, (b, ap (at block) same ∙ ey, ew))
          ];
        };
      }) in
      ne (two_blocks block p a b ep (by_closed p y t.0 t.1 t.2 ∙ ey))

  -- where p alone is a parent of y, its parents are in the same blocks as those of y in other blocks
  one_way : (p y a b : ℕ) → IsTrue (edge p y) → at block p ≡ Some a → at block y ≡ Some b → a ≢ b → Merges (shape_by_number size label edge) block a b p y
      → parent_in (shape_by_number size label edge) block p b ≡ false → MatchesOuter block edge p y
  one_way p y a b e ep ey ne m nb =
      let s = shape_by_number size label edge in
      record {
        there = λ q g.
            let k = m.parents.there q g in
            elim (merged_cases a b block q k.0 k.2) [
              | inl same ↦ (
                k.0,
                off_from s block k.0 y k.1 (λ t. (
                    let ek = together_at block y k.0 b (together_sym block k.0 y t) ey in
                    let eq = together_at block k.0 q b (together_sym block q k.0 same) ek in
                    true≢false (sym (in_from s block q p b shape g eq) ∙ nb))),
                same,
              )
              | inr (inl (eq, ek)) ↦ (p, off_from s block p y e (λ t. ne (two_blocks block p a b ep (together_at block y p b (together_sym block p y t) ey))), (a, eq, ep))
              | inr (inr (eq, ek)) ↦ absurd (true≢false (sym (in_from s block q p b shape g eq) ∙ nb))
            ];
        back = λ q h.
            let off = off_get s block q y h in
            let k = m.parents.back q off.0 in
            elim (merged_cases a b block q k.0 k.2) [
              | inl same ↦ (k.0, k.1, same)
              | inr (inl (eq, ek)) ↦ absurd (true≢false (sym (in_from s block k.0 p b shape k.1 ek) ∙ nb))
              | inr (inr (eq, ek)) ↦ absurd (off.1 (b, eq, ey))
            ];
      }

  -- and p is its own parent
  own_parent : (p y a b : ℕ) → IsTrue (edge p y) → at block p ≡ Some a → a ≢ b → Merges (shape_by_number size label edge) block a b p y
      → parent_in (shape_by_number size label edge) block p b ≡ false → (q : ℕ) × IsTrue (edge q p) × Together block q p
  own_parent p y a b e ep ne m nb =
      let s = shape_by_number size label edge in
      let k = m.parents.back p e in
      elim (merged_cases a b block p k.0 k.2) [
        | inl same ↦ (k.0, k.1, together_sym block p k.0 same)
        | inr (inl (eq, ek)) ↦ absurd (true≢false (sym (in_from s block k.0 p b shape k.1 ek) ∙ nb))
        | inr (inr (eq, ek)) ↦ absurd (ne (two_blocks block p a b ep eq))
      ]

  -- so no block can be merged with that of a parent
  parent_apart : (p y a b : ℕ) → IsTrue (edge p y) → at block p ≡ Some a → at block y ≡ Some b → a ≢ b → Merges (shape_by_number size label edge) block a b p y → ⊥
  parent_apart p y a b e ep ey ne m =
      let s = shape_by_number size label edge in
      elim (cases_Bool (parent_in s block p b)) [
        | inl on ↦ (let w = in_get s block p b on in closed_case p y w.0 a b e ep ey ne m w.1 w.2)
        | inr nb ↦
            (let x = one_label p y a b ep m in
            let matches = one_way p y a b e ep ey ne m nb in
            let q = own_parent p y a b e ep ne m nb in
            elim (cases_Bool (parent_in s block y b)) [
              | inl on ↦
                  (let z = in_get s block y b on in
                  tells.apart p y (x.0, loops.every p x.0 q.0 x.1 q.1 q.2, loops.every y x.0 z.0 x.2 z.1 (b, z.2, ey)) matches)
              | inr off ↦
                  (let t = r.grouped p y (record {
                    one_number = (x.0, is p ∙ x.1, is y ∙ x.2);
                    neighbours = record {
                      there = λ k g. let l = matches.there k g in (l.0, (off_get s block l.0 y l.1).0, l.2);
                      back = λ k g. matches.back k (off_from s block k y g (λ t.
                          true≢false (sym (in_from s block k y b shape g (together_at block y k b (together_sym block k y t) ey)) ∙ off)));
                    };
                  }) in
                  ne (two_blocks block p a b ep (by_key p y t.0 t.1 t.2 ∙ ey)))
            ])
      ]

  plain_case : (u v a b : ℕ) → at block u ≡ Some a → at block v ≡ Some b → a ≢ b → Merges (shape_by_number size label edge) block a b u v
      → parent_in (shape_by_number size label edge) block v a ≡ false → parent_in (shape_by_number size label edge) block u b ≡ false
      → parent_in (shape_by_number size label edge) block u a ≡ false → parent_in (shape_by_number size label edge) block v b ≡ false → ⊥
  plain_case u v a b eu ev ne m na nb ua vb =
      let s = shape_by_number size label edge in
      let x = one_label u v a b eu m in
      let t = r.grouped u v (record {
        one_number = (x.0, is u ∙ x.1, is v ∙ x.2);
        neighbours = record {
          there = plain s block a b u v shape m.parents.there ua nb;
          back = plain s block a b v u shape m.parents.back na vb;
        };
      }) in
      ne (two_blocks block u a b eu (by_key u v t.0 t.1 t.2 ∙ ev))

  looped_case : (u v a b : ℕ) → at block u ≡ Some a → at block v ≡ Some b → a ≢ b → Merges (shape_by_number size label edge) block a b u v
      → parent_in (shape_by_number size label edge) block v a ≡ false → parent_in (shape_by_number size label edge) block u b ≡ false
      → parent_in (shape_by_number size label edge) block u a ≡ true → parent_in (shape_by_number size label edge) block v b ≡ true → ⊥
  looped_case u v a b eu ev ne m na nb ua vb =
      let s = shape_by_number size label edge in
      let x = one_label u v a b eu m in
      let p = in_get s block u a ua in
      let q = in_get s block v b vb in
      ne (two_blocks block u a b eu (tells.same u v (record {
        one_number = (x.0, loops.every u x.0 p.0 x.1 p.1 (a, p.2, eu), loops.every v x.0 q.0 x.2 q.1 (b, q.2, ev));
        neighbours = record {
          there = open_parents s block a b u v shape eu ev m.parents.there nb na;
          back = open_parents s block b a v u shape ev eu (swap_covers s block a b v u m.parents.back) na nb;
        };
      }) ∙ ev))

  neither : (u v a b : ℕ) → at block u ≡ Some a → at block v ≡ Some b → a ≢ b → Merges (shape_by_number size label edge) block a b u v
      → parent_in (shape_by_number size label edge) block v a ≡ false → parent_in (shape_by_number size label edge) block u b ≡ false → ⊥
  neither u v a b eu ev ne m na nb =
      let s = shape_by_number size label edge in
      elim (cases_Bool (parent_in s block u a)) [
        | inl ua ↦ looped_case u v a b eu ev ne m na nb ua (loop_there s block a b u v shape ne m.parents.there na ua)
        | inr ua ↦ elim (cases_Bool (parent_in s block v b)) [
          | inl vb ↦ absurd (true≢false (sym (loop_there s block b a v u shape (λ e. ne (sym e)) (swap_covers s block a b v u m.parents.back) nb vb) ∙ ua))
          | inr vb ↦ plain_case u v a b eu ev ne m na nb ua vb
        ]
      ]

  -- two blocks that can be merged are told by their keys, by their keys with their own blocks, or by those without
  pub minimal_where : Minimal (shape_by_number size label edge) block
  minimal_where = record {
    apart = λ u v a b eu ev ne can.
        let s = shape_by_number size label edge in
        elim (cases_Bool (parent_in s block v a)) [
          | inl on ↦ (let p = in_get s block v a on in parent_apart p.0 v a b p.1 p.2 ev ne (merges_from s block a b p.0 v can p.2 ev))
          | inr na ↦ elim (cases_Bool (parent_in s block u b)) [
            | inl on ↦
                (let p = in_get s block u b on in
                parent_apart p.0 u b a p.1 p.2 eu (λ e. ne (sym e)) (merges_swapped s block a b u p.0 (merges_from s block a b u p.0 can eu p.2)))
            | inr nb ↦ neither u v a b eu ev ne (merges_from s block a b u v can eu ev) na nb
          ]
        ];
  }

-- and in a partition without two such blocks all of these tell blocks apart
together_from_apart : (s : Shape) (block : List (Option ℕ)) (u v : ℕ) → Stable s block → Minimal s block → IsSome (at block u) → IsSome (at block v)
    → ((a b : ℕ) → at block u ≡ Some a → at block v ≡ Some b → a ≢ b → Merges s block a b u v) → at block u ≡ at block v
together_from_apart s block u v st min hu hv m = elim (together_or_not block u v hu hv) [
  | inl t ↦ t.1 ∙ sym t.2
  | inr (a, b, eu, ev, ne) ↦ absurd (min.apart u v a b eu ev ne (mergeable_from s block a b u v st eu ev (m a b eu ev ne)))
]

pub keys_where : (size : ℕ) (label : ℕ → Option ℕ) (edge : ℕ → ℕ → Bool) (block labels next : List (Option ℕ)) → Stable (shape_by_number size label edge) block
    → Minimal (shape_by_number size label edge) block → ((n : ℕ) → at labels n ≡ label n) → Refines (at labels) block edge next → Determines next block
keys_where size label edge block labels next st min is r = λ u v k e f.
    let s = shape_by_number size label edge in
    let t = r.parted u v (k, e, f) in
    let lu = sym (is u) ∙ t.one_number.1 in
    let lv = sym (is v) ∙ t.one_number.2 in
    let text = ap (option_map (λ x. x ∷ [])) (lu ∙ sym lv) in
    together_from_apart s block u v st min
    (st.partition.live u (text_there (label u) t.one_number.0 lu))
    (st.partition.live v (text_there (label v) t.one_number.0 lv))
    (λ a b eu ev ne. record {
      label = text;
      parents = record {
        there = λ p g. let q = t.neighbours.there p g in (q.0, q.1, merged_keeps a b block p q.0 q.2);
        back = λ p g. let q = t.neighbours.back p g in (q.0, q.1, merged_keeps a b block p q.0 q.2);
      };
    })

-- parents of u are matched once a and b are counted as one: those in the own block by the loop of v
loop_covers : (s : Shape) (block : List (Option ℕ)) (a b u v q : ℕ) → at block u ≡ Some a → at block v ≡ Some b → IsParent s q v → Together block q v
    → Covers (λ p n. IsTrue (is_outer_parent block s.edge p n)) (Together block) u v → Covers (IsParent s) (Together (merged a b block)) u v
loop_covers s block a b u v q eu ev e t covers = λ c h. elim (cases_Bool (together block c u)) [
  | inl on ↦
      (let w = (together_decides block c u).0 on in
      (q, e, (a, merged_a a b block c (together_at block u c a (together_sym block c u w) eu), merged_b a b block q (together_at block v q b (together_sym block q v t) ev))))
  | inr off ↦
      (let d = covers c (both_true (s.edge c u) (not (together block c u)) h (ap not off)) in
      (d.0, (off_get s block d.0 v d.1).0, merged_keeps a b block c d.0 d.2))
]

pub outer_where : (size : ℕ) (label : ℕ → Option ℕ) (edge : ℕ → ℕ → Bool) (block inner : List (Option ℕ)) → Stable (shape_by_number size label edge) block
    → Minimal (shape_by_number size label edge) block → AreInnerLabels block label edge inner → TellsByOuter (at inner) block edge
outer_where size label edge block inner st min loops = record {
  same = λ u v t.
      let s = shape_by_number size label edge in
      let lu = loops.some u t.one_number.0 t.one_number.1 in
      let lv = loops.some v t.one_number.0 t.one_number.2 in
      together_from_apart s block u v st min
      (st.partition.live u (text_there (label u) t.one_number.0 lu.0))
      (st.partition.live v (text_there (label v) t.one_number.0 lv.0))
      (λ a b eu ev ne. record {
        label = ap (option_map (λ x. x ∷ [])) (lu.0 ∙ sym lv.0);
        parents = record {
          there = loop_covers s block a b u v lv.1.0 eu ev lv.1.1 lv.1.2 t.neighbours.there;
          back = λ p g. let q = loop_covers s block b a v u lu.1.0 ev eu lu.1.1 lu.1.2 t.neighbours.back p g in (q.0, q.1, swapped b a block p q.0 q.2);
        };
      });
  apart = λ u v share m.
      let s = shape_by_number size label edge in
      let lu = loops.some u share.0 share.1 in
      let lv = loops.some v share.0 share.2 in
      let b = some_of (at block v) (st.partition.live v (text_there (label v) share.0 lv.0)) in
      whole_apart s block lu.1.2.0 b.0 u v lu.1.0 st min (ap (option_map (λ x. x ∷ [])) (lu.0 ∙ sym lv.0)) lu.1.2.2 b.1 lu.1.1 lu.1.2.1 m;
}
  where
    whole_apart : (s : Shape) (block : List (Option ℕ)) (a b u v w : ℕ) → Stable s block → Minimal s block → s.label u ≡ s.label v → at block u ≡ Some a → at block v ≡ Some b
        → IsParent s w u → at block w ≡ Some a → MatchesOuter block s.edge u v → ⊥
    whole_apart s block a b u v w st min one eu ev e ew m =
        let q = m.there w e in
        let off = off_get s block q.0 v q.1 in
        let ne : a ≢ b = λ same. off.1 (b, together_at block w q.0 b q.2 (ew ∙ ap Some same), ev) in
        min.apart u v a b eu ev ne (mergeable_from s block a b u v st eu ev (record {
          label = one;
          parents = record {
            there = λ p g. let k = m.there p g in (k.0, (off_get s block k.0 v k.1).0, merged_keeps a b block p k.0 k.2);
            back = λ p g. elim (cases_Bool (together block p v)) [
              | inl on ↦ (w, e, (a, merged_b a b block p (together_at block v p b (together_sym block p v ((together_decides block p v).0 on)) ev), merged_a a b block w ew))
              | inr out ↦
                  (let k = m.back p (off_from s block p v g (λ t. let on = (together_decides block p v).1 t in true≢false (sym on ∙ out))) in
                  (k.0, k.1, merged_keeps a b block p k.0 k.2))
            ];
          };
        }))

-- parents of u are matched once a and b are counted as one, where both with their parents are in the same blocks
closed_covers : (s : Shape) (block : List (Option ℕ)) (a b u v : ℕ) → at block u ≡ Some a → at block v ≡ Some b → a ≢ b
    → Covers (λ p n. IsTrue (is_closed_parent block s.edge p n)) (Together block) u v → Covers (IsParent s) (Together (merged a b block)) u v
closed_covers s block a b u v eu ev ne covers = λ p g.
    let q = covers p (closed_parent block s.edge p u g) in
    elim (closed_cases block s.edge q.0 v q.1) [
      | inl e ↦ (q.0, e, merged_keeps a b block p q.0 q.2)
      | inr (same, some) ↦
          (let ep = together_at block q.0 p b (together_sym block p q.0 q.2) (ap (at block) same ∙ ev) in
          let k = covers u (closed_self block s.edge u a eu) in
          elim (closed_cases block s.edge k.0 v k.1) [
            | inl e ↦ (k.0, e, (a, merged_b a b block p ep, merged_a a b block k.0 (together_at block u k.0 a k.2 eu)))
            | inr (one, there) ↦ absurd (ne (two_blocks block k.0 a b (together_at block u k.0 a k.2 eu) (ap (at block) one ∙ ev)))
          ])
    ]

pub closed_where : (size : ℕ) (label : ℕ → Option ℕ) (edge : ℕ → ℕ → Bool) (block labels linked closed : List (Option ℕ)) → Stable (shape_by_number size label edge) block
    → Minimal (shape_by_number size label edge) block → AreInnerLabels labels label edge linked → Refines (at linked) block (is_closed_parent block edge) closed → Determines closed block
closed_where size label edge block labels linked closed st min kin r = λ u v k e f.
    let s = shape_by_number size label edge in
    let t = r.parted u v (k, e, f) in
    let lu = (kin.some u t.one_number.0 t.one_number.1).0 in
    let lv = (kin.some v t.one_number.0 t.one_number.2).0 in
    together_from_apart s block u v st min
    (st.partition.live u (text_there (label u) t.one_number.0 lu))
    (st.partition.live v (text_there (label v) t.one_number.0 lv))
    (λ a b eu ev ne. record {
      label = ap (option_map (λ x. x ∷ [])) (lu ∙ sym lv);
      parents = record {
        there = closed_covers s block a b u v eu ev ne t.neighbours.there;
        back = λ p g. let q = closed_covers s block b a v u ev eu (λ x. ne (sym x)) t.neighbours.back p g in (q.0, q.1, swapped b a block p q.0 q.2);
      };
    })
