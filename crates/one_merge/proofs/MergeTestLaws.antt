-- Two blocks can be merged exactly where the tables say so.
use Rattle.std.proofs.Common.{◌≡◌, ◌≢◌, ℕ, ◌↔◌, List, [], ◌∷◌, Option, Some, None, IsTrue, refl, sym, ◌∙◌, ap, subst, inl, inr, true, false, Bool, cond}
use Rattle.std.specs.Prelude.{nat_eq, nat_lt, ◌||◌, ◌&&◌, not}
use Rattle.std.specs.List.{list_any}
use Rattle.std.proofs.lemmas.Bool.{cases_Bool, both_ways, or_cases, or_left, or_right, and_parts}
use Rattle.std.proofs.lemmas.Bool.Decides.{Decides-eqb, eqb_tells}
use Rattle.graph_spec.specs.Shapes.{Shape}
use Rattle.graph_spec.specs.Members.{at, has, Lists}
use Rattle.bisim_spec.specs.Stability.{Mergeable, merged_at}
use Rattle.bisim_spec.proofs.Bisimilar.{none_or_some}
use Rattle.bisim_spec.proofs.Together.{at_merged}
use Rattle.bisim_spec.proofs.MergeableBlocks.{IsParentBlock, mergeable_blocks}
use Rattle.one_spec.specs.Viewed.{IsViewed}
use Rattle.one_spec.proofs.MergedPairs.{can_swap}
use Rattle.one_merge.specs.MergeTests.{renamed, adjacent_merged, AreParentsSatisfied, AreMergeable, AreNotMergeable}

same_is : (x y : ℕ) → x ≡ y → nat_eq x y ≡ true
same_is x y e = (Decides-eqb x y).1 e

other_is : (x y : ℕ) → x ≢ y → nat_eq x y ≡ false
other_is x y ne = elim (eqb_tells x y) [ inl s ↦ absurd (ne s.1) | inr d ↦ d.0 ]

-- what is met is some block of the same name
satisfied_some : (adjacent : ℕ → ℕ → Bool) (a b d x : ℕ) → adjacent_merged adjacent a b d x ≡ true → (z : ℕ) × IsTrue (adjacent z d) × (renamed a b z ≡ renamed a b x)
satisfied_some adjacent a b d x h = elim (eqb_tells x b) [
  | inl xb ↦ (
      let at : renamed a b x ≡ a = ap (λ t. cond t a x) xb.0 in
      let both : (adjacent a d || adjacent b d) ≡ true = sym (ap (λ t. cond (nat_eq x a || t) (adjacent a d || adjacent b d) (adjacent x d)) xb.0 ∙ ap (λ t. cond t (adjacent a d || adjacent b d) (adjacent x d)) (or_right (nat_eq x a) true refl)) ∙ h in
      pick at both)
  | inr xb ↦ elim (eqb_tells x a) [
    | inl xa ↦ (
        let at : renamed a b x ≡ a = ap (λ t. cond t a x) xb.0 ∙ xa.1 in
        let both : (adjacent a d || adjacent b d) ≡ true = sym (ap (λ t. cond (t || nat_eq x b) (adjacent a d || adjacent b d) (adjacent x d)) xa.0) ∙ h in
        pick at both)
    | inr xa ↦ (
        let one : adjacent x d ≡ true = sym (ap (λ t. cond (t || nat_eq x b) (adjacent a d || adjacent b d) (adjacent x d)) xa.0 ∙ ap (λ t. cond t (adjacent a d || adjacent b d) (adjacent x d)) xb.0) ∙ h in
        (x, one, refl))
  ]
]
  where
    name_a : renamed a b a ≡ a
    name_a = elim (cases_Bool (nat_eq a b)) [ inl t ↦ ap (λ c. cond c a a) t | inr f ↦ ap (λ c. cond c a a) f ]

    pick : renamed a b x ≡ a → (adjacent a d || adjacent b d) ≡ true → (z : ℕ) × IsTrue (adjacent z d) × (renamed a b z ≡ renamed a b x)
    pick at both = elim (or_cases (adjacent a d) (adjacent b d) both) [
      | inl ja ↦ (a, ja, name_a ∙ sym at)
      | inr jb ↦ (b, jb, ap (λ t. cond t a b) (same_is b b refl) ∙ sym at)
    ]

some_satisfied : (adjacent : ℕ → ℕ → Bool) (a b d x z : ℕ) → IsTrue (adjacent z d) → renamed a b z ≡ renamed a b x → adjacent_merged adjacent a b d x ≡ true
some_satisfied adjacent a b d x z j e = elim (eqb_tells x b) [
  | inl xb ↦ (
      let at : renamed a b x ≡ a = ap (λ t. cond t a x) xb.0 in
      let test : (nat_eq x a || nat_eq x b) ≡ true = or_right (nat_eq x a) (nat_eq x b) xb.0 in
      ap (λ t. cond t (adjacent a d || adjacent b d) (adjacent x d)) test ∙ either (e ∙ at))
  | inr xb ↦ elim (eqb_tells x a) [
    | inl xa ↦ (
        let at : renamed a b x ≡ a = ap (λ t. cond t a x) xb.0 ∙ xa.1 in
        let test : (nat_eq x a || nat_eq x b) ≡ true = or_left (nat_eq x a) (nat_eq x b) xa.0 in
        ap (λ t. cond t (adjacent a d || adjacent b d) (adjacent x d)) test ∙ either (e ∙ at))
    | inr xa ↦ (
        let at : renamed a b x ≡ x = ap (λ t. cond t a x) xb.0 in
        let test : (nat_eq x a || nat_eq x b) ≡ false = ap (λ t. t || nat_eq x b) xa.0 ∙ xb.0 in
        ap (λ t. cond t (adjacent a d || adjacent b d) (adjacent x d)) test ∙ ap (λ m. adjacent m d) (sym (one (e ∙ at) xa.1)) ∙ j)
  ]
]
  where
    either : renamed a b z ≡ a → (adjacent a d || adjacent b d) ≡ true
    either at = elim (eqb_tells z b) [
      | inl zb ↦ or_right (adjacent a d) (adjacent b d) (subst (λ m. adjacent m d ≡ true) zb.1 j)
      | inr zb ↦ (
          let za : z ≡ a = sym (ap (λ t. cond t a z) zb.0) ∙ at in
          or_left (adjacent a d) (adjacent b d) (subst (λ m. adjacent m d ≡ true) za j))
    ]

    one : renamed a b z ≡ x → x ≢ a → z ≡ x
    one at ne = elim (eqb_tells z b) [
      | inl zb ↦ absurd (ne (sym (sym (ap (λ t. cond t a z) zb.0) ∙ at)))
      | inr zb ↦ sym (ap (λ t. cond t a z) zb.0) ∙ at
    ]

module _ (s : Shape) (p : List (Option ℕ)) (labels : ℕ → Option ℕ) (adjacent : ℕ → ℕ → Bool) (a b : ℕ) (viewed : IsViewed s p labels adjacent) where
  -- a parent block, once a and b count as one, is one of the tables under its new name
  parent_seen : (c x : ℕ) → IsParentBlock s p a b c x → (y : ℕ) × IsTrue (adjacent y c) × (renamed a b y ≡ x)
  parent_seen c x (q, n, e, hn, hx) =
      let is = sym (at_merged a b p q) ∙ hx in
      elim (none_or_some (at p q)) [
        | inl none ↦ absurd (let f : None ≡ Some x = sym (ap (merged_at a b) none) ∙ is in cc)
        | inr (y, own) ↦ (
            let f : Some (renamed a b y) ≡ Some x = sym (ap (merged_at a b) own) ∙ is in
            let g : renamed a b y ≡ x = cc in
            (y, viewed.into y c (record { from = q; onto = n; edge = e; from_at = own; onto_at = hn }), g))
      ]

  seen_parent : (c y : ℕ) → IsTrue (adjacent y c) → IsParentBlock s p a b c (renamed a b y)
  seen_parent c y j =
      let k = viewed.from y c j in
      (k.from, k.onto, k.edge, k.onto_at, at_merged a b p k.from ∙ ap (merged_at a b) k.from_at)

  covered_there : (c d : ℕ) → AreParentsSatisfied adjacent a b c d → (x : ℕ) → IsParentBlock s p a b c x → IsParentBlock s p a b d x
  covered_there c d covered x h =
      let y = parent_seen c x h in
      let z = satisfied_some adjacent a b d y.0 (covered.each y.0 y.1) in
      subst (IsParentBlock s p a b d) (z.2 ∙ y.2) (seen_parent d z.0 z.1)

  there_covered : (c d : ℕ) → ((x : ℕ) → IsParentBlock s p a b c x → IsParentBlock s p a b d x) → AreParentsSatisfied adjacent a b c d
  there_covered c d there = record {
    each = λ x j.
        let z = parent_seen d (renamed a b x) (there (renamed a b x) (seen_parent c x j)) in
        some_satisfied adjacent a b d x z.0 z.1 z.2;
  }

  -- exactly so
  pub mergeable_by_tables : (u v : ℕ) → at p u ≡ Some a → at p v ≡ Some b → Mergeable s p a b ↔ ((labels a ≡ labels b) × AreParentsSatisfied adjacent a b a b × AreParentsSatisfied adjacent a b b a)
  mergeable_by_tables u v hu hv =
      let blocks = mergeable_blocks s p a b u v viewed.shape viewed.stable hu hv in (
        λ can.
            let m = blocks.0 can in
            ((viewed.labelled.same u v a b hu hv).1 (m.label u v hu hv), there_covered a b m.there, there_covered b a m.back),
        λ h. blocks.1 (record {
          label = λ x y hx hy. (viewed.labelled.same x y a b hx hy).0 h.0;
          there = covered_there a b h.1;
          back = covered_there b a h.2;
        }),
      )

pub mergeable_from : (p : List (Option ℕ)) (labels : ℕ → Option ℕ) (adjacent : ℕ → ℕ → Bool) (a b : ℕ) → a ≢ b → ((n : ℕ) × (at p n ≡ Some a)) → ((n : ℕ) × (at p n ≡ Some b)) → labels a ≡ labels b
    → AreParentsSatisfied adjacent a b a b → AreParentsSatisfied adjacent a b b a → AreMergeable p labels adjacent a b
mergeable_from p labels adjacent a b ne first second label there back = record {
  apart = ne;
  first = first;
  second = second;
  label = label;
  can = λ s v. (mergeable_by_tables s p labels adjacent a b v first.0 second.0 first.1 second.1).1 (label, there, back);
}

-- one parent of the second that isn't met rules the pair out
pub unmergeable_unsatisfied : (p : List (Option ℕ)) (labels : ℕ → Option ℕ) (adjacent : ℕ → ℕ → Bool) (a b : ℕ) → ((x : ℕ) × IsTrue (adjacent x b) × (adjacent_merged adjacent a b a x ≡ false)) → AreNotMergeable p labels adjacent a b
unmergeable_unsatisfied p labels adjacent a b off s v can =
    both_ways (adjacent_merged adjacent a b a off.0) off.2 (((mergeable_by_tables s p labels adjacent a b v can.first.0 can.second.0 can.first.1 can.second.1).0 can.can).2.each off.0 off.1)

-- the order of the two makes no difference
pub unmergeable_swap : (p : List (Option ℕ)) (labels : ℕ → Option ℕ) (adjacent : ℕ → ℕ → Bool) (a b : ℕ) → AreNotMergeable p labels adjacent b a → AreNotMergeable p labels adjacent a b
unmergeable_swap p labels adjacent a b none s v can = none s v (can_swap s p a b v.stable.partition can)

not_true : (t : Bool) → not t ≡ true → t ≡ false
not_true true h = absurd (cc)
not_true false h = refl

pub unsatisfied_get : (adjacent : ℕ → ℕ → Bool) (a b : ℕ) (xs : List ℕ) → list_any (λ x. adjacent x b && not (adjacent_merged adjacent a b a x)) xs ≡ true → (x : ℕ) × IsTrue (adjacent x b) × (adjacent_merged adjacent a b a x ≡ false)
unsatisfied_get adjacent a b [] h = absurd (cc)
unsatisfied_get adjacent a b (x ∷ xs) h = elim (or_cases (adjacent x b && not (adjacent_merged adjacent a b a x)) (list_any (λ y. adjacent y b && not (adjacent_merged adjacent a b a y)) xs) h) [
  | inl here ↦ (let both = and_parts (adjacent x b) (not (adjacent_merged adjacent a b a x)) here in (x, both.0, not_true (adjacent_merged adjacent a b a x) both.1))
  | inr there ↦ unsatisfied_get adjacent a b xs there
]

none_of : (p q : Bool) → (p || q) ≡ false → (p ≡ false) × (q ≡ false)
none_of true q h = absurd (cc)
none_of false true h = absurd (cc)
none_of false false h = (refl, refl)

satisfied_one : (p q : Bool) → (p && not q) ≡ false → p ≡ true → q ≡ true
satisfied_one p true h k = refl
satisfied_one true false h k = absurd (cc)
satisfied_one false false h k = absurd (cc)

-- where no parent of a list is unsatisfied, each is satisfied
satisfied_of : (adjacent : ℕ → ℕ → Bool) (a b : ℕ) (xs : List ℕ) → list_any (λ x. adjacent x b && not (adjacent_merged adjacent a b a x)) xs ≡ false
    → (x : ℕ) → has xs x ≡ true → IsTrue (adjacent x b) → IsTrue (adjacent_merged adjacent a b a x)
satisfied_of adjacent a b [] h x k j = absurd (cc)
satisfied_of adjacent a b (y ∷ ys) h x k j =
    let none = none_of (adjacent y b && not (adjacent_merged adjacent a b a y)) (list_any (λ z. adjacent z b && not (adjacent_merged adjacent a b a z)) ys) h in
    elim (or_cases (nat_eq x y) (has ys x) k) [
      | inl here ↦ (
          let same : x ≡ y = (Decides-eqb x y).0 here in
          subst (λ z. IsTrue (adjacent_merged adjacent a b a z)) (sym same)
          (satisfied_one (adjacent y b) (adjacent_merged adjacent a b a y) none.0 (subst (λ z. IsTrue (adjacent z b)) same j)))
      | inr there ↦ satisfied_of adjacent a b ys none.1 x there j
    ]

-- and so are all parents, where those that aren't drafted are listed as the base has them
pub all_satisfied : (support base_support : ℕ → ℕ → ℕ) (a b : ℕ) (xs drafted : List ℕ) → Lists (λ x. nat_lt 0 (base_support x b)) xs → ((x : ℕ) → has drafted x ≡ false → support x b ≡ base_support x b)
    → list_any (λ x. nat_lt 0 (support x b) && not (adjacent_merged (λ y z. nat_lt 0 (support y z)) a b a x)) xs ≡ false
    → list_any (λ x. nat_lt 0 (support x b) && not (adjacent_merged (λ y z. nat_lt 0 (support y z)) a b a x)) drafted ≡ false
    → AreParentsSatisfied (λ y z. nat_lt 0 (support y z)) a b b a
all_satisfied support base_support a b xs drafted parents same in_base among = record {
  each = λ x j. elim (cases_Bool (has drafted x)) [
    | inl there ↦ satisfied_of (λ y z. nat_lt 0 (support y z)) a b drafted among x there j
    | inr off ↦ satisfied_of (λ y z. nat_lt 0 (support y z)) a b xs in_base x (parents.members x ∙ sym (ap (nat_lt 0) (same x off)) ∙ j) j
  ];
}

or_swap : (p q : Bool) → (p || q) ≡ (q || p)
or_swap true true = refl
or_swap true false = refl
or_swap false true = refl
or_swap false false = refl

-- the order of the two that count as one makes no difference
pub satisfied_swap : (adjacent : ℕ → ℕ → Bool) (a b c d : ℕ) → AreParentsSatisfied adjacent b a c d → AreParentsSatisfied adjacent a b c d
satisfied_swap adjacent a b c d h = record { each = λ x j. same x ∙ h.each x j }
  where
    same : (x : ℕ) → adjacent_merged adjacent a b d x ≡ adjacent_merged adjacent b a d x
    same x =
        ap (λ t. cond t (adjacent a d || adjacent b d) (adjacent x d)) (or_swap (nat_eq x a) (nat_eq x b))
        ∙ ap (λ t. cond (nat_eq x b || nat_eq x a) t (adjacent x d)) (or_swap (adjacent a d) (adjacent b d))
