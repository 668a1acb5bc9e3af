-- The targets that have a block, and what a move keeps.
use Rattle.std.proofs.Common.{◌≡◌, ◌⊎◌, ℕ, ◌<◌, ◌+◌, List, [], ◌∷◌, ◌++◌, Option, Some, None, IsTrue, IsFalse, IsSome, is_some, refl, sym, ◌∙◌, ap, subst, inl, inr, true, false, Bool, cond, length, take, get_or, true≢false}
use Rattle.std.specs.Prelude.{nat_eq, ◌&&◌, IfSome}
use Rattle.std.specs.List.{IsDistinct, AllByRecursion, filter}
use Rattle.std.proofs.lemmas.Bool.{cases_Bool, or_cases, or_right, and_parts, and_from, both_ways, false_from_ne_true}
use Rattle.std.proofs.lemmas.Bool.Decides.{eqb_tells, Decides-eqb}
use Rattle.std.proofs.lemmas.List.{take_more}
use Rattle.std.proofs.lemmas.List.Elements.{filter-append}
use Rattle.std.proofs.lemmas.Map.Keys.{IsDistinct-head, IsDistinct-tail, IsDistinct-cons}
use Rattle.graph_spec.specs.Graphs.{Graph}
use Rattle.graph_spec.specs.Members.{at, has}
use Rattle.graph_spec.specs.Shapes.{Shape, IsNode}
use Rattle.bisim_spec.specs.Partitions.{IsPartition, Together}
use Rattle.bisim_spec.specs.Stability.{StableBut}
use Rattle.bisim_spec.specs.Supports.{edges_between}
use Rattle.bisim_spec.proofs.Bisimilar.{is_some_at}
use Rattle.bisim_spec.proofs.Together.{together_some, together_sym}
use Rattle.one_spec.specs.BlockLabels.{BlocksHaveLabels, BlocksHaveLabelsBut}
use Rattle.one_spec.specs.EdgeCounts.{AreEdgeCounts}
use Rattle.one_split.specs.NodeTargetBlocks.{MembersHaveLabels, LabelsStay}
use Rattle.one_split.proofs.BlockLabels.{some_kept}

-- one more element is kept or not
pub filter_more : (q : ℕ → Bool) (xs before now : List ℕ) (i d x : ℕ) → i < length xs → before ≡ filter q (take i xs) → get_or xs i d ≡ x
    → now ≡ cond (q x) (before ++ x ∷ []) before → now ≡ filter q (take (i + 1) xs)
filter_more q xs before now i d x l e is added =
    let more : filter q (take (i + 1) xs) ≡ filter q (take i xs) ++ filter q (x ∷ []) =
    ap (filter q) (take_more xs i d l ∙ ap (λ y. take i xs ++ y ∷ []) is) ∙ filter-append q (take i xs) (x ∷ []) in
    added ∙ by (q x) refl ∙ ap (λ ys. ys ++ filter q (x ∷ [])) e ∙ sym more
  where
    nil : (ys : List ℕ) → ys ≡ ys ++ []
    nil [] = refl
    nil (y ∷ ys) = ap (λ zs. y ∷ zs) (nil ys)

    by : (t : Bool) → q x ≡ t → cond (q x) (before ++ x ∷ []) before ≡ before ++ filter q (x ∷ [])
    by true f = rw f refl
    by false f = rw f (nil before)

pub has_filter : (q : ℕ → Bool) (xs : List ℕ) (n : ℕ) → has (filter q xs) n ≡ (has xs n && q n)
has_filter q [] n = refl
has_filter q (x ∷ xs) n = elim (cases_Bool (q x)) [
  | inl on ↦ rw on (elim (eqb_tells n x) [
    | inl s ↦ rw s.0 (sym (ap q s.1 ∙ on))
    | inr d ↦ rw d.0 (has_filter q xs n)
  ])
  | inr off ↦ rw off (elim (eqb_tells n x) [
    | inl s ↦ rw s.0 (has_filter q xs n ∙ off_both (has xs n) (q n) (ap q s.1 ∙ off) ∙ sym (ap q s.1 ∙ off))
    | inr d ↦ rw d.0 (has_filter q xs n)
  ])
]
  where
    off_both : (a b : Bool) → b ≡ false → (a && b) ≡ false
    off_both true b e = e
    off_both false b e = refl

apart_filter : (q : ℕ → Bool) (x : ℕ) (xs : List ℕ) → AllByRecursion (λ y. nat_eq x y ≡ false) xs → AllByRecursion (λ y. nat_eq x y ≡ false) (filter q xs)
apart_filter q x [] h = tt
apart_filter q x (y ∷ ys) h = elim (cases_Bool (q y)) [
  | inl on ↦ rw on (h.0, apart_filter q x ys h.1)
  | inr off ↦ rw off (apart_filter q x ys h.1)
]

pub filter_once : (q : ℕ → Bool) (xs : List ℕ) → IsDistinct nat_eq xs → IsDistinct nat_eq (filter q xs)
filter_once q [] d = d
filter_once q (x ∷ xs) d = elim (cases_Bool (q x)) [
  | inl on ↦ rw on (IsDistinct-cons nat_eq x (filter q xs) (apart_filter q x xs (IsDistinct-head nat_eq x xs d)) (filter_once q xs (IsDistinct-tail nat_eq x xs d)))
  | inr off ↦ rw off (filter_once q xs (IsDistinct-tail nat_eq x xs d))
]

-- a target that stands among the first is an earlier one, or the last
pub first_cases : (xs : List ℕ) (i d n : ℕ) → i < length xs → has (take (i + 1) xs) n ≡ true → (has (take i xs) n ≡ true) ⊎ (n ≡ get_or xs i d)
first_cases xs i d n l h = cases (take i xs) (sym (ap (λ ys. has ys n) (take_more xs i d l)) ∙ h)
  where
    cases : (ys : List ℕ) → has (ys ++ get_or xs i d ∷ []) n ≡ true → (has ys n ≡ true) ⊎ (n ≡ get_or xs i d)
    cases [] k = elim (or_cases (nat_eq n (get_or xs i d)) false k) [ inl e ↦ inr ((Decides-eqb n (get_or xs i d)).0 e) | inr e ↦ absurd (true≢false (sym e)) ]
    cases (y ∷ ys) k = elim (or_cases (nat_eq n y) (has (ys ++ get_or xs i d ∷ []) n) k) [
      | inl e ↦ inl (rw e refl)
      | inr e ↦ elim (cases ys e) [
        | inl f ↦ inl (or_right (nat_eq n y) (has ys n) f)
        | inr f ↦ inr f
      ]
    ]

-- the list has those of the targets that have a block
pub record ArePresent (p : List (Option ℕ)) (targets present : ℕ → Bool) : Type 0 where
  pub each : (n : ℕ) → present n ≡ (targets n && is_some (at p n))

off_before : (p : List (Option ℕ)) (targets present : ℕ → Bool) (n : ℕ) → ArePresent p targets present → IsFalse (present n) → IsSome (at p n) → IsFalse (targets n)
off_before p targets present n a off some =
    false_from_ne_true (targets n) (λ t. both_ways (present n) off (a.each n ∙ and_from (targets n) (is_some (at p n)) t some))

-- a target without a block tells apart no nodes
pub stable_present : (s : Shape) (p : List (Option ℕ)) (targets present : ℕ → Bool) → ArePresent p targets present → StableBut s p targets → StableBut s p present
stable_present s p targets present a st = record {
  partition = st.partition;
  label = λ u v nu nv k. st.label u v (first u v nu k) (first v u nv (together_sym p u v k)) k;
  parents = λ u v nu nv k. st.parents u v (first u v nu k) (first v u nv (together_sym p u v k)) k;
}
  where
    first : (u v : ℕ) → IsFalse (present u) → Together p u v → IsFalse (targets u)
    first u v off k = off_before p targets present u a off (together_some p u v k)

pub block_labels_present : (p : List (Option ℕ)) (labels node_labels : ℕ → Option ℕ) (targets present : ℕ → Bool) → ArePresent p targets present → BlocksHaveLabelsBut targets p labels node_labels
    → BlocksHaveLabelsBut present p labels node_labels
block_labels_present p labels node_labels targets present a block_labels = record {
  is = λ n b off e. block_labels.is n b (off_before p targets present n a off (is_some_at (at p n) b e)) e;
}

-- members are in blocks: the targets, and those with the labels of their blocks
pub live_present : (p : List (Option ℕ)) (labels node_labels : ℕ → Option ℕ) (targets : ℕ → Bool) → BlocksHaveLabelsBut targets p labels node_labels
    → ((n b : ℕ) → IsTrue (targets n) → at p n ≡ Some b → IsSome (labels b)) → MembersHaveLabels p labels
live_present p labels node_labels targets block_labels live = record {
  some = λ n b e. elim (cases_Bool (targets n)) [
    | inl on ↦ live n b on e
    | inr off ↦ (let d = block_labels.is n b off e in is_some_at (labels b) d.0 d.1)
  ];
}

pub live_block_labels : (p : List (Option ℕ)) (labels node_labels : ℕ → Option ℕ) → BlocksHaveLabels p labels node_labels → MembersHaveLabels p labels
live_block_labels p labels node_labels block_labels = record { some = λ n b e. let d = block_labels.is n b e in is_some_at (labels b) d.0 d.1 }

-- what is present is live
pub node_present : (s : Shape) (p : List (Option ℕ)) (targets present : ℕ → Bool) (n : ℕ) → ArePresent p targets present → IsPartition s p → IsTrue (present n) → IsNode s n
node_present s p targets present n a partition h = partition.only n (and_parts (targets n) (is_some (at p n)) (sym (a.each n) ∙ h)).1

pub target_present : (p : List (Option ℕ)) (targets present : ℕ → Bool) (n : ℕ) → ArePresent p targets present → IsTrue (present n) → IsTrue (targets n)
target_present p targets present n a h = (and_parts (targets n) (is_some (at p n)) (sym (a.each n) ∙ h)).0

-- a node that is moved has a block still
pub partition_moved : (s : Shape) (p p2 : List (Option ℕ)) (n : ℕ) (target_block : Option ℕ) → IsPartition s p → IsNode s n
    → ((m : ℕ) → at p2 m ≡ cond (nat_eq m n && is_some target_block) target_block (at p m)) → IsPartition s p2
partition_moved s p p2 n target_block partition node moved = record {
  live = λ m h. elim (cases_Bool (nat_eq m n && is_some target_block)) [
    | inl on ↦ ap is_some (moved m ∙ ap (λ t. cond t target_block (at p m)) on) ∙ (and_parts (nat_eq m n) (is_some target_block) on).1
    | inr off ↦ ap is_some (moved m ∙ ap (λ t. cond t target_block (at p m)) off) ∙ partition.live m h
  ];
  only = λ m h. elim (cases_Bool (nat_eq m n && is_some target_block)) [
    | inl on ↦ subst (IsNode s) (sym ((Decides-eqb m n).0 (and_parts (nat_eq m n) (is_some target_block) on).0)) node
    | inr off ↦ partition.only m (sym (ap is_some (moved m ∙ ap (λ t. cond t target_block (at p m)) off)) ∙ h)
  ];
}

-- members are in blocks, once a node is moved to a block
pub live_moved : (p p2 : List (Option ℕ)) (labels labels2 : ℕ → Option ℕ) (n b : ℕ) → MembersHaveLabels p labels → LabelsStay labels labels2 → IsSome (labels2 b)
    → ((m : ℕ) → at p2 m ≡ cond (nat_eq m n) (Some b) (at p m)) → MembersHaveLabels p2 labels2
live_moved p p2 labels labels2 n b live keep some moved = record {
  some = λ m c e. elim (eqb_tells m n) [
    | inl s ↦ (
        let there : at p2 m ≡ Some b = moved m ∙ ap (λ t. cond t (Some b) (at p m)) s.0 in
        let same : b ≡ c = cc in
        subst (λ x. IsSome (labels2 x)) same some)
    | inr d ↦ some_kept labels labels2 c keep (live.some m c (sym (moved m ∙ ap (λ t. cond t (Some b) (at p m)) d.0) ∙ e))
  ];
}

pub live_kept : (p p2 : List (Option ℕ)) (labels labels2 : ℕ → Option ℕ) → MembersHaveLabels p labels → LabelsStay labels labels2 → p2 ≡ p → MembersHaveLabels p2 labels2
live_kept p p2 labels labels2 live keep same = record {
  some = λ n b e. some_kept labels labels2 b keep (live.some n b (sym (ap (λ (xs : List (Option ℕ)). at xs n) same) ∙ e));
}

-- supports are right still where neither they nor the blocks of nodes have changed
pub supports_stay : (g : Graph) (p p2 : List (Option ℕ)) (support support2 : ℕ → ℕ → ℕ) → AreEdgeCounts g p support → p2 ≡ p → ((x y : ℕ) → support2 x y ≡ support x y)
    → AreEdgeCounts g p2 support2
supports_stay g p p2 support support2 a same told = record { each = λ x y. told x y ∙ a.each x y ∙ ap (λ (xs : List (Option ℕ)). edges_between g.edges xs x y) (sym same) }

pub labels_kept : (labels labels2 : ℕ → Option ℕ) (b d : ℕ) → labels b ≡ None → ((c : ℕ) → labels2 c ≡ cond (nat_eq c b) (Some d) (labels c)) → LabelsStay labels labels2
labels_kept labels labels2 b d free told = record {
  kept = λ c x e. elim (eqb_tells c b) [
    | inl s ↦ absurd (let f : labels b ≡ Some x = ap labels (sym s.1) ∙ e in let clash : Some x ≡ None = sym f ∙ free in cc)
    | inr k ↦ told c ∙ ap (λ t. cond t (Some d) (labels c)) k.0 ∙ e
  ];
}

-- a block that was made just now has a label
pub told_some : (labels labels2 : ℕ → Option ℕ) (b d : ℕ) → ((c : ℕ) → labels2 c ≡ cond (nat_eq c b) (Some d) (labels c)) → labels2 b ≡ Some d
told_some labels labels2 b d told = told b ∙ ap (λ t. cond t (Some d) (labels b)) ((Decides-eqb b b).1 refl)

-- what is said of a block that was found
pub live_at : (o : Option ℕ) (labels : ℕ → Option ℕ) (b : ℕ) → IfSome o (λ c. IsSome (labels c)) → o ≡ Some b → IsSome (labels b)
live_at None labels b h e = absurd (cc)
live_at (Some c) labels b h e = (let same : c ≡ b = cc in subst (λ x. IsSome (labels x)) same h)
