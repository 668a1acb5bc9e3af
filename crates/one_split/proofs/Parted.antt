-- One target of several goes to a block of its own, or is alone in one.
use Rattle.std.proofs.Common.{◌≡◌, ◌≢◌, ◌⊎◌, ℕ, zero, suc, ◌+◌, ◌*◌, ◌<◌, ◌≤◌, arith, length, drop, List, [], ◌∷◌, ◌++◌, cond, Option, Some, None, IsTrue, IsFalse, IsSome, is_some, refl, sym, ◌∙◌, ap, subst, inl, inr, true, false, Bool, true≢false}
use Rattle.std.specs.Prelude.{nat_eq, ◌||◌, slice_index}
use Rattle.std.specs.List.{IsDistinct}
use Rattle.std.proofs.lemmas.Bool.{or_left, or_right, or_cases, or_parts, false_from_ne_true, both_ways}
use Rattle.std.proofs.Math.Nat.{mul-le-mul_left}
use Rattle.std.proofs.lemmas.Map.Keys.{IsDistinct-tail}
use Rattle.std.proofs.lemmas.Bool.Decides.{eqb_tells, Decides-eqb}
use Rattle.graph_spec.specs.Members.{at, has, Lists}
use Rattle.graph_spec.specs.Shapes.{Shape, IsNode, IsParent, IsShape}
use Rattle.bisim_spec.specs.Partitions.{Together, IsPartition}
use Rattle.bisim_spec.specs.Stability.{StableBut}
use Rattle.bisim_spec.specs.Bisimilarity.{Covers}
use Rattle.bisim_spec.proofs.Bisimilar.{some_of, is_some_at}
use Rattle.bisim_spec.proofs.Together.{together_sym}
use Rattle.one_spec.specs.SplitRoundSteps.{MayStayTogether}
use Rattle.one_spec.proofs.SplitRounds.{same_but_moved, same_but_on, within_on}
use Rattle.one_spec.proofs.Sums.{first_has, rest_apart}
use Rattle.one_split.proofs.OneMore.{and_one}
use Rattle.one_spec.specs.BlockLabels.{BlocksHaveLabels, BlocksHaveLabelsBut}
use Rattle.one_split.specs.NodeTargetBlocks.{LabelsStay, AreBlocks}
use Rattle.one_split.proofs.BlockLabels.{some_kept}
use Rattle.one_spec.specs.Splits.{IsClosed, IsSplitInside}
use Rattle.one_split.proofs.Apart.{IsApart}
use Rattle.graph_spec.proofs.MemberLaws.{has_push}
use Rattle.one_split.specs.SplitStates.{either, IsSplitBut, IsFirstLeft}

both_off : (x y : Bool) → x ≡ false → y ≡ false → (x || y) ≡ false
both_off x y a b = rw (a, b) refl

alike_self : (s : Shape) (p : List (Option ℕ)) (n : ℕ) → IsShape s → IsPartition s p → MayStayTogether s p n n
alike_self s p n shape partition = record {
  label = refl;
  parents = λ q e. let b = some_of (at p q) (partition.live q (shape.from q n e)) in (q, e, (b.0, b.1, b.1));
}

other_than : (n t : ℕ) → n ≢ t → nat_eq n t ≡ false
other_than n t ne = elim (eqb_tells n t) [ inl s ↦ absurd (ne s.1) | inr d ↦ d.0 ]

-- the target is alone: nothing moves
pub part_stays : (s : Shape) (inside : ℕ → Bool) (first p : List (Option ℕ)) (next : List ℕ) (rest rest2 : ℕ → Bool) (new_blocks : List ℕ) (t : ℕ) → IsShape s
    → ((n : ℕ) → Together p n t → n ≡ t) → IsFirstLeft rest rest2 t → IsSplitBut s inside first p next rest new_blocks → IsSplitBut s inside first p next rest2 new_blocks
part_stays s inside first p next rest rest2 new_blocks t shape alone is_first a = record {
  stable = record {
    partition = a.stable.partition;
    label = λ u v nu nv k. (alike u v nu nv k).label;
    parents = λ u v nu nv k. (alike u v nu nv k).parents;
  };
  within = a.within;
  same = a.same;
  labels = λ u v nu nv k. elim (eqb_tells u t) [
    | inl x ↦ ap s.label (both u v x.1 k)
    | inr x ↦ elim (eqb_tells v t) [
      | inl y ↦ sym (ap s.label (both v u y.1 (together_sym p u v k)))
      | inr y ↦ a.labels u v (is_first.only u nu x.1) (is_first.only v nv y.1) k
    ]
  ];
  next_nodes = a.next_nodes;
  next_inside = a.next_inside;
  next_from = a.next_from;
  moved_new = a.moved_new;
  new_once = a.new_once;
  new_inside = a.new_inside;
  new_some = a.new_some;
  new_off = λ c n h e. fewer n (a.new_off c n h e);
}
  where
    fewer : (n : ℕ) → IsFalse (rest n) → IsFalse (rest2 n)
    fewer n h = false_from_ne_true (rest2 n) (λ x. both_ways (rest n) h (is_first.within n x))

    both : (u v : ℕ) → u ≡ t → Together p u v → u ≡ v
    both u v e k = (let vt : v ≡ t = alone v (subst (λ m. Together p v m) e (together_sym p u v k)) in e ∙ sym vt)

    off : (n : ℕ) → IsFalse (either (has next) rest2 n) → n ≢ t → IsFalse (either (has next) rest n)
    off n h ne = (let f = or_parts (has next n) (rest2 n) h in both_off (has next n) (rest n) f.0 (is_first.only n f.1 ne))

    alike : (u v : ℕ) → IsFalse (either (has next) rest2 u) → IsFalse (either (has next) rest2 v) → Together p u v → MayStayTogether s p u v
    alike u v nu nv k = elim (eqb_tells u t) [
      | inl x ↦ subst (λ m. MayStayTogether s p u m) (both u v x.1 k) (alike_self s p u shape a.stable.partition)
      | inr x ↦ elim (eqb_tells v t) [
        | inl y ↦ (
            let same : v ≡ u = both v u y.1 (together_sym p u v k) in
            subst (λ m. MayStayTogether s p m v) same (alike_self s p v shape a.stable.partition))
        | inr y ↦ record { label = a.stable.label u v (off u nu x.1) (off v nv y.1) k; parents = a.stable.parents u v (off u nu x.1) (off v nv y.1) k }
      ]
    ]

-- the target moves
pub part_moves : (s : Shape) (inside : ℕ → Bool) (first p p2 : List (Option ℕ)) (next next2 : List ℕ) (rest rest2 : ℕ → Bool) (new_blocks new_blocks2 : List ℕ) (t b : ℕ) → IsShape s
    → IsClosed s inside → IsTrue (inside t) → IsNode s t → IsApart p p2 t b → ((m : ℕ) → has next2 m ≡ (has next m || s.edge t m)) → new_blocks2 ≡ new_blocks ++ b ∷ [] → IsDistinct nat_eq new_blocks2
    → IsFirstLeft rest rest2 t → IsSplitBut s inside first p next rest new_blocks → IsSplitBut s inside first p2 next2 rest2 new_blocks2
part_moves s inside first p p2 next next2 rest rest2 new_blocks new_blocks2 t b shape closed within node apart children added once is_first a = record {
  stable = record {
    partition = partition;
    label = λ u v nu nv k. elim (came u v k) [ inl e ↦ ap s.label e | inr (x, y, before) ↦ a.stable.label u v (off u nu x) (off v nv y) before ];
    parents = λ u v nu nv k. elim (came u v k) [
      | inl e ↦ subst (λ m. Covers (IsParent s) (Together p2) u m) e (alike_self s p2 u shape partition).parents
      | inr (x, y, before) ↦ λ q e.
          let r = a.stable.parents u v (off u nu x) (off v nv y) before q e in
          (r.0, r.1, (r.2.0, apart.others q (stays u q nu e) ∙ r.2.1, apart.others r.0 (stays v r.0 nv r.1) ∙ r.2.2))
    ];
  };
  within = within_on first p p2 a.within (record {
    within = λ u v k. elim (came u v k) [
      | inl e ↦ subst (λ m. Together p u m) e (self u v k)
      | inr (x, y, before) ↦ before
    ];
  });
  same = same_but_on first p p2 inside a.same (same_but_moved p p2 (λ n. nat_eq n t) inside kept (λ n h. ap inside ((Decides-eqb n t).0 h) ∙ within));
  labels = λ u v nu nv k. elim (came u v k) [ inl e ↦ ap s.label e | inr (x, y, before) ↦ a.labels u v (is_first.only u nu x) (is_first.only v nv y) before ];
  next_nodes = λ n h. elim (listed n h) [ inl before ↦ a.next_nodes n before | inr e ↦ shape.onto t n e ];
  next_inside = λ n h. elim (listed n h) [ inl before ↦ a.next_inside n before | inr e ↦ closed.children t n within e ];
  next_from = λ n h. elim (listed n h) [ inl before ↦ a.next_from n before | inr e ↦ (t, within, e) ];
  moved_new = λ n c e. elim (eqb_tells n t) [
    | inl x ↦ (
        let found : at p2 n ≡ Some b = ap (at p2) x.1 ∙ apart.there in
        let same : c ≡ b = cc in
        inl (holds c ∙ or_right (has new_blocks c) (nat_eq c b) ((Decides-eqb c b).1 same)))
    | inr x ↦ elim (a.moved_new n c (sym (apart.others n x.1) ∙ e)) [
      | inl before ↦ inl (holds c ∙ or_left (has new_blocks c) (nat_eq c b) before)
      | inr there ↦ inr there
    ]
  ];
  new_once = once;
  new_inside = λ c n h e. elim (eqb_tells n t) [
    | inl x ↦ ap inside x.1 ∙ within
    | inr x ↦ elim (was c h) [
      | inl before ↦ a.new_inside c n before (sym (apart.others n x.1) ∙ e)
      | inr is ↦ absurd (apart.empty n (sym (apart.others n x.1) ∙ e ∙ ap (λ y. Some y) is))
    ]
  ];
  new_some = λ c h. elim (was c h) [
    | inr is ↦ (t, apart.there ∙ ap (λ x. Some x) (sym is))
    | inl before ↦ left c before
  ];
  new_off = λ c n h e. elim (eqb_tells n t) [
    | inl x ↦ ap rest2 x.1 ∙ is_first.gone
    | inr x ↦ elim (was c h) [
      | inl before ↦ fewer n (a.new_off c n before (sym (apart.others n x.1) ∙ e))
      | inr is ↦ absurd (apart.empty n (sym (apart.others n x.1) ∙ e ∙ ap (λ y. Some y) is))
    ]
  ];
}
  where
    fewer : (n : ℕ) → IsFalse (rest n) → IsFalse (rest2 n)
    fewer n h = false_from_ne_true (rest2 n) (λ x. both_ways (rest n) h (is_first.within n x))

    holds : (c : ℕ) → has new_blocks2 c ≡ (has new_blocks c || nat_eq c b)
    holds c = ap (λ xs. has xs c) added ∙ has_push new_blocks b c

    was : (c : ℕ) → has new_blocks2 c ≡ true → IsTrue (has new_blocks c) ⊎ (c ≡ b)
    was c h = elim (or_cases (has new_blocks c) (nat_eq c b) (sym (holds c) ∙ h)) [ inl before ↦ inl before | inr is ↦ inr ((Decides-eqb c b).0 is) ]

    listed : (n : ℕ) → has next2 n ≡ true → IsTrue (has next n) ⊎ IsParent s t n
    listed n h = or_cases (has next n) (s.edge t n) (sym (children n) ∙ h)

    kept : (n : ℕ) → IsFalse (nat_eq n t) → at p2 n ≡ at p n
    kept n h = elim (eqb_tells n t) [ inl x ↦ absurd (true≢false (sym x.0 ∙ h)) | inr x ↦ apart.others n x.1 ]

    off : (n : ℕ) → IsFalse (either (has next2) rest2 n) → n ≢ t → IsFalse (either (has next) rest n)
    off n h ne =
        let f = or_parts (has next2 n) (rest2 n) h in
        let g = or_parts (has next n) (s.edge t n) (sym (children n) ∙ f.0) in
        both_off (has next n) (rest n) g.0 (is_first.only n f.1 ne)

    stays : (n q : ℕ) → IsFalse (either (has next2) rest2 n) → IsParent s q n → q ≢ t
    stays n q h e same =
        let f = or_parts (has next2 n) (rest2 n) h in
        let g = or_parts (has next n) (s.edge t n) (sym (children n) ∙ f.0) in
        both_ways (s.edge t n) g.1 (subst (λ m. IsParent s m n) same e)

    came : (u v : ℕ) → Together p2 u v → (u ≡ v) ⊎ ((u ≢ t) × (v ≢ t) × Together p u v)
    came u v k = elim (eqb_tells u t) [
      | inl x ↦ elim (eqb_tells v t) [
        | inl y ↦ inl (x.1 ∙ sym y.1)
        | inr y ↦ absurd (apart.empty v (sym (apart.others v y.1) ∙ k.2 ∙ sym k.1 ∙ ap (at p2) x.1 ∙ apart.there))
      ]
      | inr x ↦ elim (eqb_tells v t) [
        | inl y ↦ absurd (apart.empty u (sym (apart.others u x.1) ∙ k.1 ∙ sym k.2 ∙ ap (at p2) y.1 ∙ apart.there))
        | inr y ↦ inr (x.1, y.1, (k.0, sym (apart.others u x.1) ∙ k.1, sym (apart.others v y.1) ∙ k.2))
      ]
    ]

    partition : IsPartition s p2
    partition = record {
      live = λ n h. elim (eqb_tells n t) [
        | inl x ↦ is_some_at (at p2 n) b (ap (at p2) x.1 ∙ apart.there)
        | inr x ↦ ap is_some (apart.others n x.1) ∙ a.stable.partition.live n h
      ];
      only = λ n h. elim (eqb_tells n t) [
        | inl x ↦ subst (IsNode s) (sym x.1) node
        | inr x ↦ a.stable.partition.only n (sym (ap is_some (apart.others n x.1)) ∙ h)
      ];
    }

    self : (u v : ℕ) → Together p2 u v → Together p u u
    self u v k =
        let l = some_of (at p u) (a.stable.partition.live u (partition.only u (is_some_at (at p2 u) k.0 k.1))) in
        (l.0, l.1, l.1)

    -- blocks that were made before still have members
    left : (c : ℕ) → has new_blocks c ≡ true → (n : ℕ) × (at p2 n ≡ Some c)
    left c h =
        let n = a.new_some c h in
        elim (eqb_tells n.0 t) [
          | inl x ↦ absurd (both_ways (rest n.0) (a.new_off c n.0 h n.1) (ap rest x.1 ∙ is_first.here))
          | inr x ↦ (n.0, apart.others n.0 x.1 ∙ n.1)
        ]

none_listed : (n : ℕ) → IsTrue (has [] n) → ⊥
none_listed n h = true≢false (sym h)

no_numbers : IsDistinct nat_eq []
unfolding IsDistinct
no_numbers = tt

-- at the start
pub parting_none : (s : Shape) (inside : ℕ → Bool) (p : List (Option ℕ)) (rest : ℕ → Bool) → StableBut s p rest → IsSplitBut s inside p p [] rest []
parting_none s inside p rest st = record {
  stable = record {
    partition = st.partition;
    label = λ u v nu nv k. st.label u v (or_parts false (rest u) nu).1 (or_parts false (rest v) nv).1 k;
    parents = λ u v nu nv k. st.parents u v (or_parts false (rest u) nu).1 (or_parts false (rest v) nv).1 k;
  };
  within = record { within = λ u v k. k };
  same = record { into = λ u v nu nv k. k; back = λ u v nu nv k. k };
  labels = λ u v nu nv k. st.label u v nu nv k;
  next_nodes = λ n h. absurd (none_listed n h);
  next_inside = λ n h. absurd (none_listed n h);
  next_from = λ n h. absurd (none_listed n h);
  moved_new = λ n b e. inr e;
  new_once = no_numbers;
  new_inside = λ b n h e. absurd (none_listed b h);
  new_some = λ b h. absurd (none_listed b h);
  new_off = λ b n h e. absurd (none_listed b h);
}

-- at the end, with what is looked at next in any order
pub parting_done : (s : Shape) (inside : ℕ → Bool) (first p : List (Option ℕ)) (next next2 : List ℕ) (rest : ℕ → Bool) (new_blocks : List ℕ) → ((n : ℕ) → IsFalse (rest n))
    → ((n : ℕ) → has next2 n ≡ has next n) → IsSplitBut s inside first p next rest new_blocks → IsSplitInside s inside first p next2 new_blocks
parting_done s inside first p next next2 rest new_blocks none same a = record {
  stable = record {
    partition = a.stable.partition;
    label = λ u v nu nv k. a.stable.label u v (off u nu) (off v nv) k;
    parents = λ u v nu nv k. a.stable.parents u v (off u nu) (off v nv) k;
  };
  within = a.within;
  same = a.same;
  labels = λ u v k. a.labels u v (none u) (none v) k;
  next_nodes = λ n h. a.next_nodes n (sym (same n) ∙ h);
  next_inside = λ n h. a.next_inside n (sym (same n) ∙ h);
  next_from = λ n h. a.next_from n (sym (same n) ∙ h);
  moved_new = a.moved_new;
  new_once = a.new_once;
  new_inside = a.new_inside;
  new_some = a.new_some;
}
  where
    off : (n : ℕ) → IsFalse (has next2 n) → IsFalse (either (has next) rest n)
    off n h = both_off (has next n) (rest n) (sym (same n) ∙ h) (none n)

-- labels
pub block_labels_alone : (t own d : ℕ) (p : List (Option ℕ)) (labels node_labels : ℕ → Option ℕ) (rest rest2 : ℕ → Bool) → at p t ≡ Some own → labels own ≡ Some d → node_labels t ≡ Some d
    → IsFirstLeft rest rest2 t → BlocksHaveLabelsBut rest p labels node_labels → BlocksHaveLabelsBut rest2 p labels node_labels
block_labels_alone t own d p labels node_labels rest rest2 found l name is_first block_labels = record {
  is = λ n b o e. elim (eqb_tells n t) [
    | inl s ↦ (
        let f : at p t ≡ Some b = ap (at p) (sym s.1) ∙ e in
        let same : own ≡ b = cc in
        (d, ap labels (sym same) ∙ l, ap node_labels s.1 ∙ name))
    | inr k ↦ block_labels.is n b (is_first.only n o k.1) e
  ];
}

pub block_labels_moved : (t b d : ℕ) (p q p2 : List (Option ℕ)) (labels labels2 node_labels : ℕ → Option ℕ) (rest rest2 : ℕ → Bool) → q ≡ p
    → ((m : ℕ) → at p2 m ≡ cond (nat_eq m t) (Some b) (at q m)) → labels2 b ≡ Some d → node_labels t ≡ Some d → LabelsStay labels labels2 → IsFirstLeft rest rest2 t
    → BlocksHaveLabelsBut rest p labels node_labels → BlocksHaveLabelsBut rest2 p2 labels2 node_labels
block_labels_moved t b d p q p2 labels labels2 node_labels rest rest2 same moved l name keep is_first block_labels = record {
  is = λ n c o e. elim (eqb_tells n t) [
    | inl s ↦ (
        let found : at p2 n ≡ Some b = moved n ∙ ap (λ x. cond x (Some b) (at q n)) s.0 in
        let is : b ≡ c = cc in
        (d, ap labels2 (sym is) ∙ l, ap node_labels s.1 ∙ name))
    | inr k ↦ (
        let found : at p n ≡ Some c = sym (ap (λ (xs : List (Option ℕ)). at xs n) same) ∙ sym (moved n ∙ ap (λ x. cond x (Some b) (at q n)) k.0) ∙ e in
        let r = block_labels.is n c (is_first.only n o k.1) found in
        (r.0, keep.kept c r.0 r.1, r.2))
  ];
}

pub block_labels_done : (p : List (Option ℕ)) (labels node_labels : ℕ → Option ℕ) (rest : ℕ → Bool) → ((n : ℕ) → IsFalse (rest n)) → BlocksHaveLabelsBut rest p labels node_labels → BlocksHaveLabels p labels node_labels
block_labels_done p labels node_labels rest none block_labels = record { is = λ n b e. block_labels.is n b (none n) e }

-- what is left of a list
first_suc : (xs : List ℕ) (i : ℕ) → IsDistinct nat_eq xs → i < length xs → IsFirstLeft (λ n. has (drop i xs) n) (λ n. has (drop (suc i) xs) n) (slice_index xs i)
first_suc [] i d h = absurd (omega (arith, h))
first_suc (x ∷ xs) zero d h = record {
  here = first_has x xs;
  gone = false_from_ne_true (has xs x) (λ k. rest_apart x x xs d k refl);
  within = λ n k. or_right (nat_eq n x) (has xs n) k;
  only = λ n k ne. both_off (nat_eq n x) (has xs n) (other_than n x ne) k;
}
first_suc (x ∷ xs) (suc i) d h = first_suc xs i (IsDistinct-tail nat_eq x xs d) (omega (arith, h))

pub first_at : (xs : List ℕ) (i : ℕ) → IsDistinct nat_eq xs → i < length xs → IsFirstLeft (λ n. has (drop i xs) n) (λ n. has (drop (i + 1) xs) n) (slice_index xs i)
first_at xs i d h =
    let same : suc i ≡ i + 1 = omega arith in
    subst (λ k. IsFirstLeft (λ n. has (drop i xs) n) (λ n. has (drop k xs) n) (slice_index xs i)) same (first_suc xs i d h)

pub none_left : (xs : List ℕ) (i : ℕ) → length xs ≤ i → (n : ℕ) → has (drop i xs) n ≡ false
none_left [] zero h n = refl
none_left [] (suc i) h n = refl
none_left (x ∷ xs) zero h n = absurd (omega (arith, h))
none_left (x ∷ xs) (suc i) h n = none_left xs i (omega (arith, h)) n

-- the target's move, as the call of it tells
pub apart_from : (p q p2 : List (Option ℕ)) (t b : ℕ) → ((n : ℕ) → at p n ≡ Some b → ⊥) → q ≡ p → ((m : ℕ) → at p2 m ≡ cond (nat_eq m t) (Some b) (at q m)) → IsApart p p2 t b
apart_from p q p2 t b empty same moved = record {
  there = moved t ∙ ap (λ x. cond x (Some b) (at q t)) ((Decides-eqb t t).1 refl);
  others = λ m ne. moved m ∙ ap (λ x. cond x (Some b) (at q m)) (other_than m t ne) ∙ ap (λ (xs : List (Option ℕ)). at xs m) same;
  empty = empty;
}

-- and its children
pub has_more : (xs ys : List ℕ) (n : ℕ) → has (xs ++ ys) n ≡ (has xs n || has ys n)
has_more [] ys n = refl
has_more (x ∷ xs) ys n = rw (has_more xs ys n) (or_assoc (nat_eq n x) (has xs n) (has ys n))
  where
    or_assoc : (a b c : Bool) → (a || (b || c)) ≡ ((a || b) || c)
    or_assoc true b c = refl
    or_assoc false b c = refl

pub children_more : (s : Shape) (t : ℕ) (next next2 children : List ℕ) → Lists (s.edge t) children → next2 ≡ next ++ children → (m : ℕ) → has next2 m ≡ (has next m || s.edge t m)
children_more s t next next2 children lists added m = ap (λ xs. has xs m) added ∙ has_more next children m ∙ ap (λ x. has next m || x) (lists.members m)

-- a block that was made just now
pub blocks_more : (labels labels2 : ℕ → Option ℕ) (new_blocks new_blocks2 : List ℕ) (b : ℕ) → AreBlocks labels new_blocks → labels b ≡ None → LabelsStay labels labels2 → IsSome (labels2 b)
    → new_blocks2 ≡ new_blocks ++ b ∷ [] → AreBlocks labels2 new_blocks2
blocks_more labels labels2 new_blocks new_blocks2 b blocks free keep some added = record {
  once = subst (IsDistinct nat_eq) (sym added) (and_one new_blocks b blocks.once absent).once;
  some = λ c h. elim (or_cases (has new_blocks c) (nat_eq c b) (sym (has_push new_blocks b c) ∙ sym (ap (λ xs. has xs c) added) ∙ h)) [
    | inl before ↦ some_kept labels labels2 c keep (blocks.some c before)
    | inr is ↦ subst (λ x. IsSome (labels2 x)) (sym ((Decides-eqb c b).0 is)) some
  ];
}
  where
    absent : has new_blocks b ≡ false
    absent = false_from_ne_true (has new_blocks b) (λ h. let l = some_of (labels b) (blocks.some b h) in let clash : None ≡ Some l.0 = sym free ∙ l.1 in cc)

-- one call more is charged to the block that it made
pub charged_more : (w new_blocks new_blocks2 old now new cost : ℕ) → (new_blocks < new_blocks2) ⊎ ((new_blocks2 ≡ new_blocks) × (new ≡ now)) → now ≤ old + new_blocks * w → new ≤ now + cost → cost ≤ w → new ≤ old + new_blocks2 * w
charged_more w new_blocks new_blocks2 old now new cost (inl grew) before after little =
    let some : new_blocks + 1 ≤ new_blocks2 = omega (arith, grew) in
    let k = mul-le-mul_left w some in
    omega (arith, k, before, after, little)
charged_more w new_blocks new_blocks2 old now new cost (inr (same, spent)) before after little =
    let k : new_blocks2 * w ≡ new_blocks * w = ap (λ m. m * w) same in
    omega (arith, k, spent, before)

pub parting_first : (s : Shape) (inside : ℕ → Bool) (p : List (Option ℕ)) (next new_blocks : List ℕ) (rest : ℕ → Bool) → next ≡ [] → new_blocks ≡ [] → StableBut s p rest
    → IsSplitBut s inside p p next rest new_blocks
parting_first s inside p next new_blocks rest e f st =
    subst (λ xs. IsSplitBut s inside p p xs rest new_blocks) (sym e) (subst (λ ys. IsSplitBut s inside p p [] rest ys) (sym f) (parting_none s inside p rest st))
