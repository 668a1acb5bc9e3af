-- Blocks to which no other block has support.
use Rattle.std.proofs.Common.{◌≡◌, ◌≢◌, ℕ, zero, suc, ◌+◌, List, [], ◌∷◌, ◌++◌, Option, Some, None, IsTrue, is_some, refl, sym, ◌∙◌, ap, subst, arith, inl, inr, true, false, Bool, count_by, true≢false}
use Rattle.std.specs.Prelude.{nat_eq, nat_lt, cond, slice_index_or, IfNone}
use Rattle.std.specs.List.{list_all, position, swap_remove}
use Rattle.std.proofs.lemmas.Bool.{cases_Bool, both_ways, or_cases, or_left, or_right, and_from}
use Rattle.std.proofs.lemmas.Bool.Decides.{Decides-eqb, Decides-ltb, eqb_tells}
use Rattle.std.proofs.lemmas.List.Folds.{list_any-append}
use Rattle.std.proofs.lemmas.List.Quantifiers.{position-Some}
use Rattle.std.proofs.lemmas.List.Sorted.{IsPermutation-swap_remove, list_any-IsPermutation}
use Rattle.graph_spec.specs.Members.{has, at, is_this, Lists}
use Rattle.graph_spec.specs.Shapes.{Shape}
use Rattle.bisim_spec.proofs.Together.{together_at, merged_cases}
use Rattle.bisim_spec.proofs.MergeableBlocks.{mergeable_blocks, merges_from}
use Rattle.bisim_spec.specs.IndexGraphs.{support_at}
use Rattle.one_spec.specs.Merges.{IsMergeablePair, IsMerged, IsChildBlock}
use Rattle.one_spec.proofs.MergeCandidates.{shared_parent_alone}
use Rattle.one_spec.proofs.MergedPairs.{unmerged, merged_gone}
use Rattle.quotient.specs.Quotients.{Quotient}
use Rattle.quotient_draft.specs.Drafts.{Drafted, has_member, inhabited_from, settled_view, shown_blocks, shown_labels, shown_support}
use Rattle.quotient_draft.specs.PairEnds.{listed}
use Rattle.one_merge.specs.MergeTests.{shown_adjacent}
use Rattle.one_merge.specs.Merged.{merged_support, with_column}
use Rattle.one_merge.specs.MergeableShown.{ShowsStablePartition, AreShownNotMergeable}
use Rattle.one_merge.specs.ParentlessBlocks.{ParentlessLists, IsNoted, IsParentless, CoversParentless, CoversBase, CoversShown, NotesParentless}
use Rattle.one_merge.proofs.Columns.{Which, goes, stays, else_, which, column_there}
use Rattle.one_merge.proofs.MergedSupports.{row_here, row_there}
use Rattle.one_merge.proofs.Counted.{member_counted, member_from, member_get}

zero_by : (n : ℕ) → nat_lt 0 n ≡ false → n ≡ 0
zero_by n h = grind (arith, h)

-- the label of a block with members stays when blocks without members go
label_stays : (block : List (Option ℕ)) (n : ℕ) (labels : List (Option ℕ)) (b l : ℕ) → has_member block (n + b) ≡ true → at labels b ≡ Some l → at (inhabited_from block n labels) b ≡ Some l
label_stays block n [] b l on h = absurd (cc)
label_stays block n (x ∷ xs) zero l on h = ap (λ t. cond t x None) (subst (λ m. has_member block m ≡ true) (let e : n + 0 ≡ n = omega arith in e) on) ∙ h
label_stays block n (x ∷ xs) (suc b) l on h = label_stays block (n + 1) xs b l (subst (λ m. has_member block m ≡ true) (let e : n + suc b ≡ (n + 1) + b = omega arith in e) on) h

settled_label : (q : Quotient) (d : Drafted) (n b l : ℕ) → at (shown_blocks q d) n ≡ Some b → at (shown_labels q d) b ≡ Some l → at (settled_view q d).labels b ≡ Some l
settled_label q d n b l there h =
    label_stays (shown_blocks q d) 0 (shown_labels q d) b l
    (subst (λ m. has_member (shown_blocks q d) m ≡ true) (let e : b ≡ 0 + b = omega arith in e) (member_from (shown_blocks q d) b n there)) h

-- The children of a are in the list where a is one of them, and so are the blocks that are noted for a label.
pub record AreCandidates (support : ℕ → ℕ → ℕ) (parentless : ParentlessLists) (a label : ℕ) (list : List ℕ) : Type 0 where
  pub children : IsTrue (nat_lt 0 (support a a)) → (b : ℕ) → IsTrue (nat_lt 0 (support a b)) → IsTrue (has list b)
  pub noted : (b : ℕ) → IsNoted parentless label b → IsTrue (has list b)

-- the children, where a is one of them, and then the noted blocks
pub candidates_both : (support : ℕ → ℕ → ℕ) (parentless : ParentlessLists) (a label : ℕ) (list own noted : List ℕ)
    → (IsTrue (nat_lt 0 (support a a)) → (b : ℕ) → IsTrue (nat_lt 0 (support a b)) → IsTrue (has list b)) → own ≡ list → noted ≡ listed parentless label → AreCandidates support parentless a label (own ++ noted)
candidates_both support parentless a label list own noted children own_is noted_is = record {
  children = λ k b h. list_any-append (nat_eq b) own noted ∙ or_left (has own b) (has noted b) (ap (λ xs. has xs b) own_is ∙ children k b h);
  noted = λ b h. list_any-append (nat_eq b) own noted ∙ or_right (has own b) (has noted b) (ap (λ xs. has xs b) noted_is ∙ h);
}

-- where a block is a parent of the block with which it can be merged, it has a parent itself
mergeable_back : (s : Shape) (p : List (Option ℕ)) (a b : ℕ) → IsMergeablePair s p a b → IsChildBlock s p a b → (z : ℕ) × IsChildBlock s p z a
mergeable_back s p a b can k =
    let y = can.first in
    let r = (merges_from s p a b y.0 k.onto can.can y.1 k.onto_at).parents.back k.from k.edge in
    elim (merged_cases a b p k.from r.0 r.2) [
      | inl near ↦ (a, record { from = r.0; onto = y.0; edge = r.1; from_at = together_at p k.from r.0 a near k.from_at; onto_at = y.1 })
      | inr (inl (ef, er)) ↦ (b, record { from = r.0; onto = y.0; edge = r.1; from_at = er; onto_at = y.1 })
      | inr (inr (ef, er)) ↦ (a, record { from = r.0; onto = y.0; edge = r.1; from_at = er; onto_at = y.1 })
    ]

-- a block that is in no such list can't be merged with a block that has no other parent than itself
pub unmergeable_lone : (q : Quotient) (d : Drafted) (parentless : ParentlessLists) (a label : ℕ) (list : List ℕ)
    → ((x : ℕ) → IsTrue (shown_adjacent q d x a) → x ≡ a) → at (shown_labels q d) a ≡ Some label → CoversShown q d parentless
    → AreCandidates (shown_support q d) parentless a label list → ((b : ℕ) → IsTrue (has list b) → AreShownNotMergeable q d a b) → (b : ℕ) → AreShownNotMergeable q d a b
unmergeable_lone q d parentless a label list lone own covers are among b s v can = elim (cases_Bool (has list b)) [
  | inl there ↦ among b there s v can
  | inr off ↦ (
      let m = (mergeable_blocks s (shown_blocks q d) a b can.first.0 can.second.0 v.shape v.stable can.first.1 can.second.1).0 can.can in
      let same = (v.labelled.same can.first.0 can.second.0 a b can.first.1 can.second.1).1 (m.label can.first.0 can.second.0 can.first.1 can.second.1) in
      both_ways (has list b) off (are.noted b (covers.each b label (settled_label q d can.second.0 b label can.second.1 (sym same ∙ own)) (λ x ne. alone s v can off x ne))))
]
  where
    alone : (s : Shape) → ShowsStablePartition s q d → IsMergeablePair s (shown_blocks q d) a b → has list b ≡ false → (x : ℕ) → x ≢ b → shown_support q d x b ≡ 0
    alone s v can off x ne = elim (cases_Bool (shown_adjacent q d x b)) [
      | inr none ↦ zero_by (shown_support q d x b) none
      | inl some ↦ absurd (elim (shared_parent_alone s (shown_blocks q d) a b x can (λ z k. lone z (v.into z a k)) (v.from x b some)) [
        | inl e ↦ (
            let adjacent : IsTrue (shown_adjacent q d a b) = ap (λ z. shown_adjacent q d z b) (sym e) ∙ some in
            let z = mergeable_back s (shown_blocks q d) a b can (v.from a b adjacent) in
            let own : IsTrue (shown_adjacent q d a a) = ap (λ c. shown_adjacent q d c a) (sym (lone z.0 (v.into z.0 a z.1))) ∙ v.into z.0 a z.1 in
            both_ways (has list b) off (are.children own b adjacent))
        | inr e ↦ ne e
      ])
    ]

pub none_mergeable_lone : (o : Option ℕ) (q : Quotient) (d : Drafted) (parentless : ParentlessLists) (a label : ℕ) (list : List ℕ)
    → ((x : ℕ) → IsTrue (shown_adjacent q d x a) → x ≡ a) → at (shown_labels q d) a ≡ Some label → CoversShown q d parentless
    → AreCandidates (shown_support q d) parentless a label list
    → IfNone o ((b : ℕ) → IsTrue (has list b) → AreShownNotMergeable q d a b) → IfNone o ((b : ℕ) → AreShownNotMergeable q d a b)
none_mergeable_lone None q d parentless a label list lone own covers are among = unmergeable_lone q d parentless a label list lone own covers are among
none_mergeable_lone (Some c) q d parentless a label list lone own covers are among = among

-- what is noted stays covered
pub covers_kept : (labels : ℕ → Option ℕ) (support : ℕ → ℕ → ℕ) (parentless parentless2 : ParentlessLists) → ((l c : ℕ) → IsNoted parentless l c → IsNoted parentless2 l c) → CoversParentless labels support parentless
    → CoversParentless labels support parentless2
covers_kept labels support parentless parentless2 kept covers = record { each = λ b l h k. kept l b (covers.each b l h k) }

-- a number that is no block of the base needn't be noted
pub covers_but : (labels : ℕ → Option ℕ) (support : ℕ → ℕ → ℕ) (parentless parentless2 : ParentlessLists) (b : ℕ) → is_some (labels b) ≡ false
    → ((l c : ℕ) → c ≢ b → IsNoted parentless l c → IsNoted parentless2 l c) → CoversParentless labels support parentless → CoversParentless labels support parentless2
covers_but labels support parentless parentless2 b none kept covers = record {
  each = λ c l h k. kept l c (λ e. true≢false (sym (ap (λ x. is_some (labels x)) (sym e) ∙ ap is_some h) ∙ none)) (covers.each c l h k);
}

-- a label that is left when blocks without members go was there before
pub labels_kept : (block : List (Option ℕ)) (n : ℕ) (labels : List (Option ℕ)) (b l : ℕ) → at (inhabited_from block n labels) b ≡ Some l → at labels b ≡ Some l
labels_kept block n [] b l h = absurd (cc)
labels_kept block n (x ∷ xs) zero l h = by (has_member block n) h
  where
    by : (t : Bool) → cond t x None ≡ Some l → x ≡ Some l
    by true e = e
    by false e = absurd (cc)
labels_kept block n (x ∷ xs) (suc b) l h = labels_kept block (n + 1) xs b l h

-- and its block has members
label_inhabited : (block : List (Option ℕ)) (n : ℕ) (labels : List (Option ℕ)) (b l : ℕ) → at (inhabited_from block n labels) b ≡ Some l → has_member block (n + b) ≡ true
label_inhabited block n [] b l h = absurd (cc)
label_inhabited block n (x ∷ xs) zero l h = subst (λ m. has_member block m ≡ true) (let e : n ≡ n + 0 = omega arith in e) (by (has_member block n) refl h)
  where
    by : (t : Bool) → has_member block n ≡ t → cond t x None ≡ Some l → has_member block n ≡ true
    by true e h = e
    by false e h = absurd (cc)
label_inhabited block n (x ∷ xs) (suc b) l h = subst (λ m. has_member block m ≡ true) (let e : (n + 1) + b ≡ n + suc b = omega arith in e) (label_inhabited block (n + 1) xs b l h)

-- a block as shown that is none, or has no members, has no label once the draft is settled
pub no_label : (q : Quotient) (d : Drafted) (b l : ℕ) → is_some (at (shown_labels q d) b) ≡ false → at (settled_view q d).labels b ≡ Some l → ⊥
no_label q d b l none h = true≢false (sym (ap is_some (labels_kept (shown_blocks q d) 0 (shown_labels q d) b l h)) ∙ none)

pub no_member : (q : Quotient) (d : Drafted) (b l : ℕ) → count_by (is_this b) (shown_blocks q d) ≡ 0 → at (settled_view q d).labels b ≡ Some l → ⊥
no_member q d b l none h =
    let some = member_counted (shown_blocks q d) b (subst (λ m. has_member (shown_blocks q d) m ≡ true) (let e : 0 + b ≡ b = omega arith in e) (label_inhabited (shown_blocks q d) 0 (shown_labels q d) b l h)) in
    omega (arith, some, none)

-- the label of a block is that which it has once the draft is settled, where it has one
pub label_settled : (q : Quotient) (d : Drafted) (parentless : ParentlessLists) (b l label : ℕ) → at (shown_labels q d) b ≡ Some l → IsNoted parentless l b → at (settled_view q d).labels b ≡ Some label → IsNoted parentless label b
label_settled q d parentless b l label own noted h =
    let e = labels_kept (shown_blocks q d) 0 (shown_labels q d) b label h in
    subst (λ m. IsNoted parentless m b) (let same : l ≡ label = cc in same) noted

-- where those of the touched blocks are noted, and the others have the labels and the parents of the base
pub covers_drafted : (q : Quotient) (d : Drafted) (parentless parentless2 parentless3 : ParentlessLists) (blocks ends : List ℕ) → CoversBase q parentless
    → ((l c : ℕ) → IsNoted parentless l c → IsNoted parentless2 l c) → ((l c : ℕ) → IsNoted parentless2 l c → IsNoted parentless3 l c)
    → ((b : ℕ) → has blocks b ≡ false → at (shown_labels q d) b ≡ at q.blocks.labels b) → ((a b : ℕ) → has ends b ≡ false → shown_support q d a b ≡ support_at q.supports a b)
    → ((b l : ℕ) → IsTrue (has blocks b) → at (settled_view q d).labels b ≡ Some l → IsParentless (shown_support q d) b → IsNoted parentless2 l b)
    → ((b l : ℕ) → IsTrue (has ends b) → at (settled_view q d).labels b ≡ Some l → IsParentless (shown_support q d) b → IsNoted parentless3 l b) → CoversShown q d parentless3
covers_drafted q d parentless parentless2 parentless3 blocks ends covers kept kept2 labels supports noted noted2 = record {
  each = λ b l h k. elim (cases_Bool (has blocks b)) [
    | inl there ↦ kept2 l b (noted b l there h k)
    | inr old ↦ elim (cases_Bool (has ends b)) [
      | inl there ↦ noted2 b l there h k
      | inr off ↦ kept2 l b (kept l b (covers.each b l (sym (labels b old) ∙ labels_kept (shown_blocks q d) 0 (shown_labels q d) b l h) (λ a ne. sym (supports a b off) ∙ k a ne)))
    ]
  ];
}

-- the same numbers are listed
pub lists_as : (p q : ℕ → Bool) (xs : List ℕ) → ((n : ℕ) → p n ≡ q n) → Lists p xs → Lists q xs
lists_as p q xs same l = record { once = l.once; members = λ n. l.members n ∙ same n }

-- all parents are the block itself
pub all_own : (support : ℕ → ℕ) (b : ℕ) (xs : List ℕ) → Lists (λ a. nat_lt 0 (support a)) xs → ((a : ℕ) → a ≢ b → support a ≡ 0) → list_all (λ a. nat_eq a b) xs ≡ true
all_own support b xs parents parentless_block = all_from xs (λ a h. elim (eqb_tells a b) [
  | inl s ↦ s.0
  | inr d ↦ absurd (
      let zero = parentless_block a d.1 in
      let some = (Decides-ltb 0 (support a)).0 (sym (parents.members a) ∙ h) in
      omega (arith, zero, some))
])
  where
    all_from : (ys : List ℕ) → ((a : ℕ) → has ys a ≡ true → nat_eq a b ≡ true) → list_all (λ a. nat_eq a b) ys ≡ true
    all_from [] h = refl
    all_from (y ∷ ys) h =
        and_from (nat_eq y b) (list_all (λ a. nat_eq a b) ys) (h y (or_left (nat_eq y y) (has ys y) ((Decides-eqb y y).1 refl)))
        (all_from ys (λ a k. h a (or_right (nat_eq a y) (has ys a) k)))

-- a block that is neither of two which are merged, and to which no other has support afterwards, had no other parent before
parentless_before : (a b : ℕ) (s s2 : ℕ → ℕ → ℕ) (c : ℕ) → a ≢ b → c ≢ a → c ≢ b → ((x y : ℕ) → s2 x y ≡ merged_support a b s x y) → IsParentless s2 c → IsParentless s c
parentless_before a b s s2 c ne na nb is alone x nx = by (which a b x)
  where
    both_zero : s a c + s b c ≡ 0
    both_zero =
        let merged = is a c ∙ row_here a b (with_column a b s) c ne in
        let zero = alone a (λ e. na (sym e)) in
        let own = column_there a b s a c na nb in
        let other = column_there a b s b c na nb in
        omega (arith, merged, zero, own, other)

    by : Which a b x → s x c ≡ 0
    by (goes e) = ap (λ z. s z c) e ∙ (let z = both_zero in omega (arith, z))
    by (stays e) = ap (λ z. s z c) e ∙ (let z = both_zero in omega (arith, z))
    by (else_ xa xb) = sym (is x c ∙ row_there a b (with_column a b s) x c xa xb ∙ column_there a b s x c na nb) ∙ alone x nx

-- Where two blocks are merged, the one that stays alone may have become parentless.
pub covers_merged : (q : Quotient) (d d2 : Drafted) (parentless parentless2 : ParentlessLists) (a b : ℕ) → a ≢ b → shown_labels q d2 ≡ shown_labels q d
    → IsMerged a b (shown_blocks q d) (shown_blocks q d2) → ((x y : ℕ) → shown_support q d2 x y ≡ merged_support a b (shown_support q d) x y) → CoversShown q d parentless
    → ((l c : ℕ) → c ≢ b → IsNoted parentless l c → IsNoted parentless2 l c) → NotesParentless (at (settled_view q d2).labels) (shown_support q d2) parentless2 a → CoversShown q d2 parentless2
covers_merged q d d2 parentless parentless2 a b ne same m is covers kept noted = record {
  each = λ c l h alone. elim (eqb_tells c a) [
    | inl t ↦ subst (IsNoted parentless2 l) (sym t.1) (noted l (subst (λ z. at (settled_view q d2).labels z ≡ Some l) t.1 h) (subst (IsParentless (shown_support q d2)) t.1 alone))
    | inr f ↦ (
        let n = member_get (shown_blocks q d2) c (subst (λ z. has_member (shown_blocks q d2) z ≡ true) (let e : 0 + c ≡ c = omega arith in e) (label_inhabited (shown_blocks q d2) 0 (shown_labels q d2) c l h)) in
        let off : c ≢ b = λ e. merged_gone a b (shown_blocks q d) (shown_blocks q d2) n.0 m ne (n.1 ∙ ap Some e) in
        let label = ap (λ ls. at ls c) (sym same) ∙ labels_kept (shown_blocks q d2) 0 (shown_labels q d2) c l h in
        kept l c off (covers.each c l (settled_label q d n.0 c l (unmerged a b (shown_blocks q d) (shown_blocks q d2) c n.0 m f.1 n.1) label)
        (parentless_before a b (shown_support q d) (shown_support q d2) c ne f.1 off is alone)))
  ];
}

-- the others are left where a number is taken out of a list
pub others_left : (xs ys : List ℕ) (b i r : ℕ) → position (nat_eq b) xs ≡ Some i → r ≡ slice_index_or xs i r → ys ≡ swap_remove xs i r → (c : ℕ) → c ≢ b → IsTrue (has xs c) → IsTrue (has ys c)
others_left xs ys b i r at is removed c ne there =
    let p = position-Some (nat_eq b) xs i r at in
    let same : b ≡ r = (Decides-eqb b (slice_index_or xs i r)).0 p.1 ∙ sym is in
    let moved = list_any-IsPermutation (nat_eq c) xs (r ∷ swap_remove xs i r) (IsPermutation-swap_remove xs i r p.0 is) in
    elim (or_cases (nat_eq c r) (has (swap_remove xs i r) c) (sym moved ∙ there)) [
      | inl own ↦ absurd (ne ((Decides-eqb c r).0 own ∙ sym same))
      | inr left ↦ ap (λ zs. has zs c) removed ∙ left
    ]
