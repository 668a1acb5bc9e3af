-- Keys without the own block.
use Rattle.std.proofs.Common.{◌≡◌, ℕ, ◌<◌, ◌+◌, List, Option, Some, None, IsSome, IsTrue, Bool, true, false, ◌&&◌, not, refl, sym, ◌∙◌, ap, subst, arith, inl, inr, length, ◌++◌, ◌∷◌, [], slice_get}
use Rattle.std.proofs.lemmas.List.{get_or_push, get_or_append_left, length-append}
use Rattle.std.proofs.lemmas.Bool.{and_parts, cases_Bool, cases_lt, not-true}
use Rattle.graph_spec.specs.Members.{at, is_this, has, Lists}
use Rattle.bisim_spec.specs.Partitions.{Together}
use Rattle.bisim_spec.specs.Tests.{together, same_block}
use Rattle.bisim_spec.proofs.Bisimilar.{is_some_at}
use Rattle.bisim_spec.specs.NodeKeys.{IsKey, IsWritten}
use Rattle.bisim_spec.specs.declared.sides.Side.TheVariants.{Parents}
use Rattle.key_table.specs.NumberedKeys.{AreDistinct}
use Rattle.index_check.specs.ComparedLists.{Determines}
use Rattle.round_refinement.specs.NeighbourSides.{is_neighbour}
use Rattle.bisim_spec.specs.Refinement.{StayTogether}
use Rattle.round_refinement.specs.Numbering.{AreNumbered}
use Rattle.index_check.specs.OuterParents.{is_outer_parent, AreInnerLabels, HasWholeKey, IsInnerLabel, TellsByOuter, outer_block_at, outer_block}
use Rattle.round_refinement.proofs.NumberedNodes.{key_of_block, numbered_refines}
use Rattle.bisim_spec.proofs.WrittenKeys.{key_of, key_from_together, parts_same}

other_get : (own o : Option ℕ) (b : ℕ) → outer_block own o ≡ Some b → (o ≡ Some b) × (is_this b own ≡ false)
other_get own None b e = absurd (cc)
other_get own (Some c) b e = elim (cases_Bool (is_this c own)) [
  | inl on ↦ absurd (let f : None ≡ Some b = rw on at e in cc)
  | inr off ↦ (let f : Some c ≡ Some b = rw off at e in
      let one : c ≡ b = cc in
      (ap Some one, ap (λ x. is_this x own) (sym one) ∙ off))
]

other_from : (own o : Option ℕ) (b : ℕ) → o ≡ Some b → is_this b own ≡ false → outer_block own o ≡ Some b
other_from own o b e off = ap (outer_block own) e ∙ (rw off refl)

together_is : (block : List (Option ℕ)) (p n b : ℕ) → at block p ≡ Some b → together block p n ≡ is_this b (at block n)
together_is block p n b e = ap (λ o. same_block o (at block n)) e

pub key_of_open : (own : ℕ → Option ℕ) (base : List (Option ℕ)) (edge : ℕ → ℕ → Bool) (n number : ℕ) (nodes key : List ℕ) → Lists (λ p. edge p n) nodes → own n ≡ Some number
    → IsWritten (outer_block_at base n) nodes number key → IsKey own base (is_outer_parent base edge) n key
key_of_open own base edge n number nodes key l own_is w = record {
  number = number;
  around = w.around;
  is = w.is;
  own_is = own_is;
  rising = w.images.rising;
  each = λ b h.
      let p = w.images.each b h in
      let o = other_get (at base n) (at base p.0) b p.2 in
      let off : together base p.0 n ≡ false = together_is base p.0 n b o.0 ∙ o.1 in
      let e : edge p.0 n ≡ true = sym (l.members p.0) ∙ p.1 in
      (p.0, ap (λ x. x && not (together base p.0 n)) e ∙ ap not off, o.0);
  every = λ p b h e.
      let parts = and_parts (edge p n) (not (together base p n)) h in
      let off = not-true (together base p n) parts.1 in
      w.images.every p b (l.members p ∙ parts.0) (other_from (at base n) (at base p) b e (sym (together_is base p n b e) ∙ off));
}

-- neighbours in other blocks have blocks
pub outer_neighbour_block : (base : List (Option ℕ)) (edge : ℕ → ℕ → Bool) → ((p n : ℕ) → IsTrue (edge p n) → (b : ℕ) × (at base p ≡ Some b))
    → (p n : ℕ) → IsTrue (is_outer_parent base edge p n) → (b : ℕ) × (at base p ≡ Some b)
outer_neighbour_block base edge blocks p n h = blocks p n (and_parts (edge p n) (not (together base p n)) h).0

-- a list of such labels
pub record LoopedBelow (block : List (Option ℕ)) (label : ℕ → Option ℕ) (edge : ℕ → ℕ → Bool) (n : ℕ) (l : List (Option ℕ)) : Type 0 where
  pub length_is : length l ≡ n
  pub each : (m : ℕ) → m < n → IsInnerLabel block label edge m (at l m)

pub looped_all : (block : List (Option ℕ)) (label : ℕ → Option ℕ) (edge : ℕ → ℕ → Bool) (n : ℕ) (l : List (Option ℕ)) → LoopedBelow block label edge n l
    → ((m : ℕ) → IsSome (label m) → m < n) → ((m : ℕ) → IsSome (at l m) → m < length l) → AreInnerLabels block label edge l
looped_all block label edge n l w nodes within = record {
  some = λ m x e.
      let below = within m (is_some_at (at l m) x e) in
      let size = w.length_is in
      (w.each m (omega (arith, below, size))).some x e;
  every = λ m x p e h t. (w.each m (nodes m (is_some_at (label m) x e))).every x e (p, h, t);
}

pub looped_more : (block : List (Option ℕ)) (label : ℕ → Option ℕ) (edge : ℕ → ℕ → Bool) (n : ℕ) (l : List (Option ℕ)) (o : Option ℕ) → LoopedBelow block label edge n l
    → IsInnerLabel block label edge n o → LoopedBelow block label edge (n + 1) (l ++ o ∷ [])
looped_more block label edge n l o w last = record {
  length_is = length-append l (o ∷ []) ∙ ap (λ k. k + 1) w.length_is;
  each = λ m h. elim (cases_lt m n) [
    | inl before ↦ (let long = w.length_is in subst (IsInnerLabel block label edge m) (sym (get_or_append_left l (o ∷ []) None m (omega (arith, long, before)))) (w.each m before))
    | inr past ↦
        (let here : m ≡ n = omega (arith, h, past) in
        subst (λ k. IsInnerLabel block label edge k (at (l ++ o ∷ []) k)) (sym here)
        (subst (IsInnerLabel block label edge n) (sym (get_or_push l o None n w.length_is)) last))
  ];
}

-- nodes stay with themselves
stays_self : (own : ℕ → Option ℕ) (block : List (Option ℕ)) (edge : ℕ → ℕ → Bool) (n b : ℕ) → ((p n : ℕ) → IsTrue (edge p n) → (b : ℕ) × (at block p ≡ Some b)) → own n ≡ Some b
    → StayTogether own block (is_neighbour Parents edge) n n
stays_self own block edge n b blocks e = record {
  one_number = (b, e, e);
  neighbours = record {
    there = λ p g. let c = blocks p n g in (p, g, (c.0, c.1, c.1));
    back = λ p g. let c = blocks p n g in (p, g, (c.0, c.1, c.1));
  };
}

-- whether the key of a node is in the table
pub whole_key : (own : ℕ → Option ℕ) (block : List (Option ℕ)) (edge : ℕ → ℕ → Bool) (keys : List (List ℕ)) (n number : ℕ) (nodes key : List ℕ)
    → ((p n : ℕ) → IsTrue (edge p n) → (b : ℕ) × (at block p ≡ Some b)) → Lists (λ p. edge p n) nodes → own n ≡ Some number → IsWritten (at block) nodes number key
    → (((k : ℕ) × (slice_get keys k ≡ Some key)) → HasWholeKey own block edge keys n) × (HasWholeKey own block edge keys n → (k : ℕ) × (slice_get keys k ≡ Some key))
whole_key own block edge keys n number nodes key blocks l e w =
    let is : IsKey own block (is_neighbour Parents edge) n key = key_of own block (is_neighbour Parents edge) n number nodes key l e w in (
      λ h. record { number = h.0; key = key; stands = h.1; is = is },
      λ h. (h.number, h.stands ∙ ap Some (key_from_together own block (is_neighbour Parents edge) n n h.key key (stays_self own block edge n number blocks e) h.is is)),
    )

-- by the keys without own blocks
pub tells_from : (own : ℕ → Option ℕ) (block next : List (Option ℕ)) (edge : ℕ → ℕ → Bool) (keys : List (List ℕ)) → ((p n : ℕ) → IsTrue (edge p n) → (b : ℕ) × (at block p ≡ Some b))
    → AreDistinct keys → AreNumbered own block (is_outer_parent block edge) next (slice_get keys) → Determines next block → ((n : ℕ) → HasWholeKey own block edge keys n → ⊥)
    → TellsByOuter own block edge
tells_from own block next edge keys blocks distinct w by lacks = record {
  same = λ u v t.
      let k = (numbered_refines own block (is_outer_parent block edge) (slice_get keys) next (outer_neighbour_block block edge blocks) distinct.apart w).grouped u v t in
      by u v k.0 k.1 k.2;
  apart = λ u v share m.
      let f = w.some v share.0 share.2 in
      let key = f.4 in
      let moved : (b p q : ℕ) → at block p ≡ Some b → Together block p q → at block q ≡ Some b = λ b p q e t. let x = t.1 in let y = t.2 in cc in
      lacks u (record {
        number = f.0;
        key = f.1;
        stands = f.3;
        is = record {
          number = key.number;
          around = key.around;
          is = key.is;
          own_is = share.1 ∙ sym share.2 ∙ key.own_is;
          rising = key.rising;
          each = λ b h. let q = key.each b h in let p = m.back q.0 q.1 in (p.0, p.1, moved b q.0 p.0 q.2 p.2);
          every = λ p b h e. let q = m.there p h in key.every q.0 b q.1 (moved b p q.0 e q.2);
        };
      });
}

-- a key by all parents of one node isn't that of another without its own block
key_apart : (own : ℕ → Option ℕ) (block : List (Option ℕ)) (edge : ℕ → ℕ → Bool) (n m : ℕ) (key : List ℕ) → ((p n : ℕ) → IsTrue (edge p n) → (b : ℕ) × (at block p ≡ Some b))
    → TellsByOuter own block edge → IsKey own block (is_neighbour Parents edge) n key → IsKey own block (is_outer_parent block edge) m key → ⊥
key_apart own block edge n m key blocks tells whole outer =
    let parts = parts_same whole.around outer.around whole.number outer.number (sym whole.is ∙ outer.is) in
    tells.apart n m (whole.number, whole.own_is, outer.own_is ∙ ap Some (sym parts.1)) (record {
      there = λ p e.
          let b = blocks p n e in
          let q = outer.each b.0 (ap (λ xs. has xs b.0) (sym parts.0) ∙ whole.every p b.0 e b.1) in
          (q.0, q.1, (b.0, b.1, q.2));
      back = λ q e.
          let b = outer_neighbour_block block edge blocks q m e in
          let p = whole.each b.0 (ap (λ xs. has xs b.0) parts.0 ∙ outer.every q b.0 e b.1) in
          (p.0, p.1, (b.0, b.1, p.2));
    })

pub tells_apart : (own : ℕ → Option ℕ) (block next : List (Option ℕ)) (edge : ℕ → ℕ → Bool) (keys : List (List ℕ)) → ((p n : ℕ) → IsTrue (edge p n) → (b : ℕ) × (at block p ≡ Some b))
    → AreDistinct keys → AreNumbered own block (is_outer_parent block edge) next (slice_get keys) → TellsByOuter own block edge
    → Determines next block × ((n : ℕ) → HasWholeKey own block edge keys n → ⊥)
tells_apart own block next edge keys blocks distinct w tells = (
  λ u v k e f.
      tells.same u v ((numbered_refines own block (is_outer_parent block edge) (slice_get keys) next (outer_neighbour_block block edge blocks) distinct.apart w).parted u v (k, e, f)),
  λ n h.
      let m = w.inhabited h.number (is_some_at (slice_get keys h.number) h.key h.stands) in
      let key = key_of_block own block (is_outer_parent block edge) (slice_get keys) next w m.0 h.number m.1 in
      let one : key.numbers ≡ h.key = (let x = key.at in let y = h.stands in cc) in
      key_apart own block edge n m.0 h.key blocks tells h.is (subst (IsKey own block (is_outer_parent block edge) m.0) one key.is),
)
