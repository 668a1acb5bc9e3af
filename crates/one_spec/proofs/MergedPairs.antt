-- What merging pairs of blocks keeps.
use Rattle.std.proofs.Common.{◌≡◌, ◌≢◌, ℕ, List, Option, Some, None, refl, sym, ◌∙◌, ap, inl, inr, cond}
use Rattle.std.specs.Prelude.{is_some, nat_eq}
use Rattle.std.proofs.lemmas.Bool.Decides.{eqb_tells}
use Rattle.graph_spec.specs.Members.{at}
use Rattle.graph_spec.specs.Shapes.{Shape}
use Rattle.bisim_spec.specs.Partitions.{Together, IsPartition}
use Rattle.bisim_spec.specs.Stability.{Stable, Minimal, merged, merged_at}
use Rattle.bisim_spec.proofs.Stable.{stable_label, stable_parents}
use Rattle.bisim_spec.proofs.Together.{at_merged, merged_keeps, merged_a, merged_b, merged_cases, merged_partition}
use Rattle.bisim_spec.proofs.Outside.{IsOutside, SameOutside, none_outside}
use Rattle.one_spec.specs.Merges.{IsMergeablePair, IsMerged, Merges, none, one_more}

-- a partition with the same blocks is stable too
pub same_stable : (s : Shape) (p q : List (Option ℕ)) → ((n : ℕ) → at q n ≡ at p n) → Stable s p → Stable s q
same_stable s p q e st = record {
  partition = record {
    live = λ n h. ap is_some (e n) ∙ st.partition.live n h;
    only = λ n h. st.partition.only n (sym (ap is_some (e n)) ∙ h);
  };
  label = λ u v nu nv t. stable_label s p st u v (pull u v t);
  parents = λ u v nu nv t x h. let k = stable_parents s p st u v (pull u v t) x h in (k.0, k.1, (k.2.0, e x ∙ k.2.1, e k.0 ∙ k.2.2));
}
  where
    pull : (u v : ℕ) → Together q u v → Together p u v
    pull u v t = (t.0, sym (e u) ∙ t.1, sym (e v) ∙ t.2)

-- the same as the list in which b is replaced by a
pub merged_list : (a b : ℕ) (p p2 : List (Option ℕ)) → IsMerged a b p p2 → (n : ℕ) → at p2 n ≡ at (merged a b p) n
merged_list a b p p2 m n = m.blocks n ∙ sym (at_merged a b p n)

pub merged_into : (a b : ℕ) (p p2 : List (Option ℕ)) → IsMerged a b p p2 → (u v : ℕ) → Together (merged a b p) u v → Together p2 u v
merged_into a b p p2 m u v t = (t.0, merged_list a b p p2 m u ∙ t.1, merged_list a b p p2 m v ∙ t.2)

pub merged_from : (a b : ℕ) (p p2 : List (Option ℕ)) → IsMerged a b p p2 → (u v : ℕ) → Together p2 u v → Together (merged a b p) u v
merged_from a b p p2 m u v t = (t.0, sym (merged_list a b p p2 m u) ∙ t.1, sym (merged_list a b p p2 m v) ∙ t.2)

-- merging two blocks that can be merged keeps a partition stable
pub merged_stable : (s : Shape) (p p2 : List (Option ℕ)) (a b : ℕ) → IsMergeablePair s p a b → IsMerged a b p p2 → Stable s p2
merged_stable s p p2 a b can m = same_stable s (merged a b p) p2 (merged_list a b p p2 m) can.can

pub merges_stable : (s : Shape) (p q : List (Option ℕ)) → Merges s p q → Stable s p → Stable s q
merges_stable s p _ none st = st
merges_stable s p _ (one_more q p2 a b before can m) st = merged_stable s q p2 a b can m

-- nodes that are together stay so
pub merges_keep : (s : Shape) (p q : List (Option ℕ)) → Merges s p q → (u v : ℕ) → Together p u v → Together q u v
merges_keep s p _ none u v t = t
merges_keep s p _ (one_more q p2 a b before can m) u v t = merged_into a b q p2 m u v (merged_keeps a b q u v (merges_keep s p q before u v t))

-- A merge doesn't join nodes out of reach that were apart before the change.
pub outside_merged_pair : (s s2 : Shape) (Out : ℕ → Type 0) (p p2 p3 : List (Option ℕ)) → IsOutside s s2 Out → SameOutside p p2 Out → Stable s p → Minimal s p
    → (a b : ℕ) → IsMergeablePair s2 p2 a b → IsMerged a b p2 p3 → SameOutside p p3 Out
outside_merged_pair s s2 Out p p2 p3 out same st min a b can m = record {
  into = λ x y ox oy t. merged_into a b p2 p3 m x y (merged_keeps a b p2 x y (same.into x y ox oy t));
  back = λ x y ox oy t. elim (merged_cases a b p2 x y (merged_from a b p2 p3 m x y t)) [
    | inl near ↦ same.back x y ox oy near
    | inr (inl (ex, ey)) ↦ absurd (none_outside s s2 Out p p2 out same st min x y a b ox oy ex ey can.apart can.can)
    | inr (inr (ex, ey)) ↦ absurd (none_outside s s2 Out p p2 out same st min y x a b oy ox ey ex can.apart can.can)
  ];
}

pub outside_merges : (s s2 : Shape) (Out : ℕ → Type 0) (p p2 p3 : List (Option ℕ)) → IsOutside s s2 Out → SameOutside p p2 Out → Stable s p → Minimal s p
    → Merges s2 p2 p3 → SameOutside p p3 Out
outside_merges s s2 Out p p2 _ out same st min none = same
outside_merges s s2 Out p p2 _ out same st min (one_more q p3 a b before can m) =
    outside_merged_pair s s2 Out p q p3 out (outside_merges s s2 Out p p2 q out same st min before) st min a b can m

swap_together : (a b : ℕ) (p : List (Option ℕ)) (u v : ℕ) → Together (merged a b p) u v → Together (merged b a p) u v
swap_together a b p u v t = elim (merged_cases a b p u v t) [
  | inl near ↦ merged_keeps b a p u v near
  | inr (inl (eu, ev)) ↦ (b, merged_b b a p u eu, merged_a b a p v ev)
  | inr (inr (eu, ev)) ↦ (b, merged_a b a p u eu, merged_b b a p v ev)
]

-- which of the two goes makes no difference
pub can_swap : (s : Shape) (p : List (Option ℕ)) (a b : ℕ) → IsPartition s p → IsMergeablePair s p a b → IsMergeablePair s p b a
can_swap s p a b partition can = record {
  apart = λ e. can.apart (sym e);
  first = can.second;
  second = can.first;
  can = record {
    partition = merged_partition s b a p partition;
    label = λ u v nu nv t. stable_label s (merged a b p) can.can u v (swap_together b a p u v t);
    parents = λ u v nu nv t q e.
        let r = stable_parents s (merged a b p) can.can u v (swap_together b a p u v t) q e in
        (r.0, r.1, swap_together a b p q r.0 r.2);
  };
}

-- a member of another block than the merged one was one of that block before
pub unmerged : (a b : ℕ) (p p2 : List (Option ℕ)) (c n : ℕ) → IsMerged a b p p2 → c ≢ a → at p2 n ≡ Some c → at p n ≡ Some c
unmerged a b p p2 c n m ne h = by (at p n) refl
  where
    by : (o : Option ℕ) → at p n ≡ o → at p n ≡ Some c
    by None e = absurd (let f = m.blocks n ∙ ap (merged_at a b) e in cc)
    by (Some d) e =
        let f : Some (cond (nat_eq d b) a d) ≡ Some c = sym (m.blocks n ∙ ap (merged_at a b) e) ∙ h in
        elim (eqb_tells d b) [
          | inl t ↦ absurd (ne (let g : Some a ≡ Some c = rw t.0 at f in let z : c ≡ a = cc in z))
          | inr k ↦ (let g : Some d ≡ Some c = rw k.0 at f in e ∙ g)
        ]

-- the merged block has no members
pub merged_gone : (a b : ℕ) (p p2 : List (Option ℕ)) (n : ℕ) → IsMerged a b p p2 → a ≢ b → at p2 n ≡ Some b → ⊥
merged_gone a b p p2 n m ne h = elim (eqb_tells b b) [
  | inl t ↦ (
      let k = unmerged a b p p2 b n m (λ e. ne (sym e)) h in
      let f : at p2 n ≡ Some a = m.blocks n ∙ ap (merged_at a b) k ∙ rw t.0 refl in
      ne (let z : a ≡ b = cc in z))
  | inr d ↦ d.1 refl
]
