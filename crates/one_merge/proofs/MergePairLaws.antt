-- What the tables say of pairs that can be merged.
use Rattle.std.proofs.Common.{◌≡◌, ◌≢◌, ℕ, zero, suc, ◌+◌, ◌<◌, ◌≤◌, ◌⊎◌, List, [], ◌∷◌, ◌++◌, length, take, Option, Some, None, IsTrue, refl, sym, ◌∙◌, ap, subst, arith, inl, inr, true, false, Bool, true≢false}
use Rattle.std.specs.Prelude.{nat_eq, nat_lt, ◌||◌, ◌&&◌, not, IfNone, IfSome, get_or}
use Rattle.std.specs.List.{list_any, IsDistinct}
use Rattle.std.specs.Cmp.{nat_eq_equiv}
use Rattle.std.proofs.lemmas.Bool.{cases_Bool, both_ways, or_cases, or_left, or_right, and_parts}
use Rattle.std.proofs.lemmas.Bool.Decides.{Decides-eqb}
use Rattle.std.proofs.lemmas.List.{take_all}
use Rattle.std.proofs.lemmas.List.Folds.{list_any-append}
use Rattle.std.proofs.lemmas.Map.Made.{length-le_from_is_member}
use Rattle.graph_spec.specs.Members.{has, at, Lists}
use Rattle.graph_spec.specs.Shapes.{Shape}
use Rattle.graph_spec.proofs.MemberLaws.{has_more}
use Rattle.bisim_spec.proofs.MergeableBlocks.{mergeable_blocks}
use Rattle.one_spec.specs.Merges.{IsMergeablePair, IsMerged, one_more, none, AreMergeCandidates}
use Rattle.one_spec.specs.Viewed.{IsViewed, IsMergedToEnd}
use Rattle.one_spec.proofs.MergedPairs.{can_swap}
use Rattle.one_spec.proofs.MergeCandidates.{shared_parent, minimal_from, candidates_cleared}
use Rattle.block_partition.specs.LabelledPartitions.{put}
use Rattle.quotient_draft.specs.Drafts.{with_added}
use Rattle.quotient_draft.specs.Basis.{AreLeastFree}
use Rattle.one_merge.specs.MergeTests.{AreMergeable, AreNotMergeable}
use Rattle.one_merge.specs.ShownMerges.{IsMerging}
use Rattle.one_merge.proofs.MergedNeighbours.{candidates_by_parent}

-- the order of the two makes no difference
pub mergeable_swap : (p : List (Option ℕ)) (labels : ℕ → Option ℕ) (adjacent : ℕ → ℕ → Bool) (a b : ℕ) → AreMergeable p labels adjacent a b → AreMergeable p labels adjacent b a
mergeable_swap p labels adjacent a b mergeable_pair = record {
  apart = λ e. mergeable_pair.apart (sym e);
  first = mergeable_pair.second;
  second = mergeable_pair.first;
  label = sym mergeable_pair.label;
  can = λ s v. (can_swap s p a b v.stable.partition (record { apart = mergeable_pair.apart; first = mergeable_pair.first; second = mergeable_pair.second; can = mergeable_pair.can s v })).can;
}

-- a block can't be merged with itself, and one without members is none
pub unmergeable_same : (p : List (Option ℕ)) (labels : ℕ → Option ℕ) (adjacent : ℕ → ℕ → Bool) (a b : ℕ) → a ≡ b → AreNotMergeable p labels adjacent a b
unmergeable_same p labels adjacent a b e s v can = can.apart e

pub unmergeable_empty : (p : List (Option ℕ)) (labels : ℕ → Option ℕ) (adjacent : ℕ → ℕ → Bool) (a b : ℕ) → ((n : ℕ) → at p n ≢ Some b) → AreNotMergeable p labels adjacent a b
unmergeable_empty p labels adjacent a b empty s v can = empty can.second.0 can.second.1

-- blocks of different labels are none
pub unmergeable_label : (p : List (Option ℕ)) (labels : ℕ → Option ℕ) (adjacent : ℕ → ℕ → Bool) (a b label : ℕ) → labels a ≡ Some label → labels b ≢ Some label → AreNotMergeable p labels adjacent a b
unmergeable_label p labels adjacent a b label own ne s v can =
    let m = (mergeable_blocks s p a b can.first.0 can.second.0 v.shape v.stable can.first.1 can.second.1).0 can.can in
    let same = (v.labelled.same can.first.0 can.second.0 a b can.first.1 can.second.1).1 (m.label can.first.0 can.second.0 can.first.1 can.second.1) in
    ne (sym same ∙ own)

pub unmergeable_alone : (p : List (Option ℕ)) (labels : ℕ → Option ℕ) (adjacent : ℕ → ℕ → Bool) (a : ℕ) → ((n : ℕ) → at p n ≢ Some a) → (b : ℕ) → AreNotMergeable p labels adjacent a b
unmergeable_alone p labels adjacent a empty b s v can = empty can.first.0 can.first.1

-- a parent of b that is none of a rules the pair out
unmergeable_unshared : (p : List (Option ℕ)) (labels : ℕ → Option ℕ) (adjacent : ℕ → ℕ → Bool) (a b x : ℕ) → IsTrue (adjacent x b) → x ≢ a → x ≢ b → adjacent x a ≡ false → AreNotMergeable p labels adjacent a b
unmergeable_unshared p labels adjacent a b x there na nb off s v can = elim (shared_parent s p b a x (can_swap s p a b v.stable.partition can) (v.from x b there) nb) [
  | inl e ↦ na (sym e)
  | inr k ↦ both_ways (adjacent x a) off (v.into x a k)
]

pub has_none : (xs : List ℕ) (x : ℕ) → true ≡ nat_eq (length xs) 0 → has xs x ≡ false
has_none [] x h = refl
has_none (y ∷ ys) x h = absurd (let none = (Decides-eqb (length (y ∷ ys)) 0).0 (sym h) in omega (arith, none))

-- a number of a list that passes
any_get : (t : ℕ → Bool) (xs : List ℕ) → list_any t xs ≡ true → (x : ℕ) × IsTrue (has xs x) × IsTrue (t x)
any_get t [] h = absurd (true≢false (sym h))
any_get t (x ∷ xs) h = elim (or_cases (t x) (list_any t xs) h) [
  | inl here ↦ (x, or_left (nat_eq x x) (has xs x) ((Decides-eqb x x).1 refl), here)
  | inr there ↦ (let r = any_get t xs there in (r.0, or_right (nat_eq r.0 x) (has xs r.0) r.1, r.2))
]

off_by : (t : Bool) → not t ≡ true → t ≡ false
off_by true h = absurd (true≢false (sym h))
off_by false h = refl

ne_by : (x y : ℕ) → not (nat_eq x y) ≡ true → x ≢ y
ne_by x y h e = both_ways (nat_eq x y) (off_by (nat_eq x y) h) ((Decides-eqb x y).1 e)

-- one of the parents of b, which are those of the base, is none of a
pub unmergeable_by_unshared : (p : List (Option ℕ)) (labels : ℕ → Option ℕ) (support base_support : ℕ → ℕ → ℕ) (a b : ℕ) (xs own drafted : List ℕ) → Lists (λ x. nat_lt 0 (base_support x b)) xs
    → Lists (λ x. nat_lt 0 (base_support x a)) own → ((x : ℕ) → support x b ≡ base_support x b) → ((x : ℕ) → has drafted x ≡ false → support x a ≡ base_support x a)
    → list_any (λ x. (not (nat_eq x a) && not (nat_eq x b)) && (not (has own x) && not (has drafted x))) xs ≡ true → AreNotMergeable p labels (λ x y. nat_lt 0 (support x y)) a b
unmergeable_by_unshared p labels support base_support a b xs own drafted parents owns same_b same_a any =
    let r = any_get (λ x. (not (nat_eq x a) && not (nat_eq x b)) && (not (has own x) && not (has drafted x))) xs any in
    let x = r.0 in
    let halves = and_parts (not (nat_eq x a) && not (nat_eq x b)) (not (has own x) && not (has drafted x)) r.2 in
    let differ = and_parts (not (nat_eq x a)) (not (nat_eq x b)) halves.0 in
    let none = and_parts (not (has own x)) (not (has drafted x)) halves.1 in
    unmergeable_unshared p labels (λ y z. nat_lt 0 (support y z)) a b x (ap (nat_lt 0) (same_b x) ∙ sym (parents.members x) ∙ r.1) (ne_by x a differ.0) (ne_by x b differ.1)
    (ap (nat_lt 0) (same_a x (off_by (has drafted x) none.1)) ∙ sym (owns.members x) ∙ off_by (has own x) none.0)

-- one of the parents of b, which are those of the base, has no support to a
pub unmergeable_by_nonadjacent : (p : List (Option ℕ)) (labels : ℕ → Option ℕ) (support base_support : ℕ → ℕ → ℕ) (a b : ℕ) (xs : List ℕ) → Lists (λ x. nat_lt 0 (base_support x b)) xs
    → ((x : ℕ) → support x b ≡ base_support x b) → list_any (λ x. (not (nat_eq x a) && not (nat_eq x b)) && nat_eq (support x a) 0) xs ≡ true
    → AreNotMergeable p labels (λ x y. nat_lt 0 (support x y)) a b
unmergeable_by_nonadjacent p labels support base_support a b xs parents same any =
    let r = any_get (λ x. (not (nat_eq x a) && not (nat_eq x b)) && nat_eq (support x a) 0) xs any in
    let x = r.0 in
    let halves = and_parts (not (nat_eq x a) && not (nat_eq x b)) (nat_eq (support x a) 0) r.2 in
    let differ = and_parts (not (nat_eq x a)) (not (nat_eq x b)) halves.0 in
    unmergeable_unshared p labels (λ y z. nat_lt 0 (support y z)) a b x (ap (nat_lt 0) (same x) ∙ sym (parents.members x) ∙ r.1) (ne_by x a differ.0) (ne_by x b differ.1)
    (ap (nat_lt 0) ((Decides-eqb (support x a) 0).0 halves.1))

-- nothing to merge with, where a parent block is none and no child of it is
pub unmergeable_by : (p : List (Option ℕ)) (labels : ℕ → Option ℕ) (adjacent : ℕ → ℕ → Bool) (a x : ℕ) → x ≢ a → IsTrue (adjacent x a) → AreNotMergeable p labels adjacent a x
    → ((b : ℕ) → IsTrue (adjacent x b) → AreNotMergeable p labels adjacent a b) → (b : ℕ) → AreNotMergeable p labels adjacent a b
unmergeable_by p labels adjacent a x ne parent here children b = λ s v can. elim (shared_parent s p a b x can (v.from x a parent) ne) [
  | inl e ↦ here s v (subst (IsMergeablePair s p a) e can)
  | inr k ↦ children b (v.into x b k) s v can
]

pub none_mergeable_by_parent : (o : Option ℕ) (p : List (Option ℕ)) (labels : ℕ → Option ℕ) (support base_support : ℕ → ℕ → ℕ) (a x : ℕ) (ys drafted : List ℕ) → x ≢ a
    → IsTrue (nat_lt 0 (support x a)) → AreNotMergeable p labels (λ y z. nat_lt 0 (support y z)) a x → Lists (λ b. nat_lt 0 (base_support x b)) ys
    → ((b : ℕ) → has drafted b ≡ false → support x b ≡ base_support x b) → ((b : ℕ) → IsTrue (has ys b) → AreNotMergeable p labels (λ y z. nat_lt 0 (support y z)) a b)
    → IfNone o ((b : ℕ) → IsTrue (has drafted b) → AreNotMergeable p labels (λ y z. nat_lt 0 (support y z)) a b)
    → IfNone o ((b : ℕ) → AreNotMergeable p labels (λ y z. nat_lt 0 (support y z)) a b)
none_mergeable_by_parent None p labels support base_support a x ys drafted ne parent here children same in_base among =
    unmergeable_by p labels (λ y z. nat_lt 0 (support y z)) a x ne parent here (λ b j. elim (cases_Bool (has drafted b)) [
      | inl there ↦ among b there
      | inr off ↦ in_base b (children.members b ∙ sym (ap (nat_lt 0) (same b off)) ∙ j)
    ])
none_mergeable_by_parent (Some c) p labels support base_support a x ys drafted ne parent here children same in_base among = among

pub if_none : {X : Type 0} (o : Option X) (P : Type 0) → o ≡ None → IfNone o P → P
if_none None P e h = h
if_none (Some x) P e h = absurd (cc)

pub if_some : {X : Type 0} (o : Option X) (x : X) (P : X → Type 0) → o ≡ Some x → IfSome o P → P x
if_some None x P e h = absurd (cc)
if_some (Some y) x P e h = subst P (let same : y ≡ x = cc in same) h

pub take_end : (xs : List ℕ) (i n : ℕ) → length xs ≤ i → IsTrue (has xs n) → IsTrue (has (take i xs) n)
take_end xs i n over h = ap (λ ys. has ys n) (take_all i xs over) ∙ h

-- numbers in lists

-- what holds of two lists holds of both together
pub none_either : (first second : Option ℕ) (P : ℕ → Type 0) (xs ys : List ℕ) → first ≡ None → IfNone first ((b : ℕ) → IsTrue (has xs b) → P b) → IfNone second ((b : ℕ) → IsTrue (has ys b) → P b)
    → IfNone second ((b : ℕ) → IsTrue (has (xs ++ ys) b) → P b)
none_either first None P xs ys e one two = λ b h. elim (or_cases (has xs b) (has ys b) (sym (list_any-append (nat_eq b) xs ys) ∙ h)) [
  | inl k ↦ if_none first ((c : ℕ) → IsTrue (has xs c) → P c) e one b k
  | inr k ↦ two b k
]
none_either first (Some x) P xs ys e one two = two

-- a candidate is the one that was taken off, or one still
taken_cases : (xs ys : List ℕ) (a n : ℕ) → ((c : ℕ) → has ys c ≡ (has xs c || nat_eq c a)) → has ys n ≡ true → (has xs n ≡ true) ⊎ (n ≡ a)
taken_cases xs ys a n e h = elim (or_cases (has xs n) (nat_eq n a) (sym (e n) ∙ h)) [
  | inl there ↦ inl there
  | inr here ↦ inr ((Decides-eqb n a).0 here)
]

-- numbers that stand once in a list are no more than a list has that has them too
pub fewer_once : (xs ys : List ℕ) → IsDistinct nat_eq xs → ((c : ℕ) → has xs c ≡ has ys c) → length xs ≤ length ys
fewer_once xs ys once same = length-le_from_is_member nat_eq_equiv xs ys once (λ c h. sym (same c) ∙ h)

-- what holds of the numbers below one, and of the next one
pub more_hold : (P : ℕ → Type 0) (xs : List ℕ) (i d : ℕ) → i < length xs → ((b : ℕ) → IsTrue (has (take i xs) b) → P b) → P (get_or xs i d) → (b : ℕ) → IsTrue (has (take (i + 1) xs) b) → P b
more_hold P xs i d h before here b k = elim (or_cases (has (take i xs) b) (nat_eq b (get_or xs i d)) (sym (has_more xs i d b h) ∙ k)) [
  | inl there ↦ before b there
  | inr same ↦ subst P (sym ((Decides-eqb b (get_or xs i d)).0 same)) here
]

-- a candidate with nothing to merge with is none any more
pub cleared : (s : Shape) (p : List (Option ℕ)) (labels : ℕ → Option ℕ) (adjacent : ℕ → ℕ → Bool) (xs ys : List ℕ) (a : ℕ) → IsViewed s p labels adjacent → ((c : ℕ) → has ys c ≡ (has xs c || nat_eq c a))
    → ((b : ℕ) → AreNotMergeable p labels adjacent a b) → AreMergeCandidates s p (λ b. IsTrue (has ys b)) → AreMergeCandidates s p (λ b. IsTrue (has xs b))
cleared s p labels adjacent xs ys a v e lone h =
    candidates_cleared s p (λ b. IsTrue (has ys b)) (λ b. IsTrue (has xs b)) a v.stable.partition h (λ b can. lone b s v can) (λ b k. elim (taken_cases xs ys a b e k) [
      | inl there ↦ inr there
      | inr same ↦ inl same
    ])

-- the candidate that was taken off is one of the pair
pub candidates_or : (s : Shape) (p : List (Option ℕ)) (xs ys : List ℕ) (a x y : ℕ) → ((c : ℕ) → has ys c ≡ (has xs c || nat_eq c a)) → (a ≡ x) ⊎ (a ≡ y) → AreMergeCandidates s p (λ b. IsTrue (has ys b))
    → AreMergeCandidates s p (λ b. ((b ≡ x) ⊎ (b ≡ y)) ⊎ IsTrue (has xs b))
candidates_or s p xs ys a x y e one h = record { one = λ b c can. elim (h.one b c can) [ inl k ↦ inl (flip b k) | inr k ↦ inr (flip c k) ] }
  where
    flip : (b : ℕ) → IsTrue (has ys b) → ((b ≡ x) ⊎ (b ≡ y)) ⊎ IsTrue (has xs b)
    flip b k = elim (taken_cases xs ys a b e k) [
      | inl there ↦ inr there
      | inr same ↦ inl (elim one [ inl f ↦ inl (same ∙ f) | inr f ↦ inr (same ∙ f) ])
    ]

pub candidates_none : (s : Shape) (p : List (Option ℕ)) (xs : List ℕ) → ((c : ℕ) → has xs c ≡ false) → AreMergeCandidates s p (λ b. IsTrue (has xs b)) → AreMergeCandidates s p (λ b. ⊥)
candidates_none s p xs e h = record { one = λ b c can. elim (h.one b c can) [ inl k ↦ inl (off b k) | inr k ↦ inr (off c k) ] }
  where
    off : (b : ℕ) → IsTrue (has xs b) → ⊥
    off b k = true≢false (sym k ∙ e b)

-- one pair more is merged
pub merged_more : (s : Shape) (first p p2 : List (Option ℕ)) (labels labels2 : ℕ → Option ℕ) (adjacent adjacent2 : ℕ → ℕ → Bool) (merge_candidates rest after : List ℕ) (a b : ℕ)
    → IsMerging s first p labels adjacent merge_candidates → AreMergeable p labels adjacent a b
    → (IsViewed s p labels adjacent → AreMergeCandidates s p (λ c. IsTrue (has merge_candidates c)) → AreMergeCandidates s p (λ c. ((c ≡ a) ⊎ (c ≡ b)) ⊎ IsTrue (has rest c)))
    → IsMerged a b p p2 → (IsViewed s p labels adjacent → IsViewed s p2 labels2 adjacent2)
    → IsTrue (has after a) → ((c : ℕ) → IsTrue (has rest c) → IsTrue (has after c)) → ((c : ℕ) → IsTrue (adjacent b c) → IsTrue (has after c))
    → IsMerging s first p2 labels2 adjacent2 after
merged_more s first p p2 labels labels2 adjacent adjacent2 merge_candidates rest after a b m mergeable_pair rests merged tables own kept children =
    let can : IsMergeablePair s p a b = record { apart = mergeable_pair.apart; first = mergeable_pair.first; second = mergeable_pair.second; can = mergeable_pair.can s m.viewed } in
    let viewed = tables m.viewed in
    record {
      merges = one_more p p2 a b m.merges can merged;
      viewed = viewed;
      candidates_are = candidates_by_parent s p p2 labels adjacent a b (λ c. ((c ≡ a) ⊎ (c ≡ b)) ⊎ IsTrue (has rest c)) (λ c. IsTrue (has after c)) m.viewed merged can.apart
          (rests m.viewed m.candidates_are) own children (λ c ne h. elim h [
            | inl (inl e) ↦ ap (has after) e ∙ own
            | inl (inr e) ↦ absurd (ne e)
            | inr there ↦ kept c there
          ]);
    }

pub merging_start : (s : Shape) (p : List (Option ℕ)) (labels : ℕ → Option ℕ) (adjacent : ℕ → ℕ → Bool) (merge_candidates : List ℕ) → IsViewed s p labels adjacent
    → AreMergeCandidates s p (λ b. IsTrue (has merge_candidates b)) → IsMerging s p p labels adjacent merge_candidates
merging_start s p labels adjacent merge_candidates v h = record { merges = none; viewed = v; candidates_are = h }

pub merging_end : (s : Shape) (first p : List (Option ℕ)) (labels : ℕ → Option ℕ) (adjacent : ℕ → ℕ → Bool) (merge_candidates : List ℕ) → IsMerging s first p labels adjacent merge_candidates
    → (IsViewed s p labels adjacent → AreMergeCandidates s p (λ b. IsTrue (has merge_candidates b)) → AreMergeCandidates s p (λ b. ⊥)) → IsMergedToEnd s first p
merging_end s first p labels adjacent merge_candidates m over = record { merges = m.merges; minimal = minimal_from s p (over m.viewed m.candidates_are) }

-- merge candidates are the same, whatever list has them
pub candidates_same : (s : Shape) (p : List (Option ℕ)) (xs ys : List ℕ) → ((b : ℕ) → has ys b ≡ has xs b) → AreMergeCandidates s p (λ b. IsTrue (has xs b)) → AreMergeCandidates s p (λ b. IsTrue (has ys b))
candidates_same s p xs ys e h = record { one = λ b c can. elim (h.one b c can) [ inl k ↦ inl (e b ∙ k) | inr k ↦ inr (e c ∙ k) ] }

-- A block other than a that is adjacent to it, where there is one: what was found first, or one of the list.
pub record IsOther (adjacent : ℕ → Bool) (a : ℕ) (first : Option ℕ) (xs : List ℕ) (o : Option ℕ) : Type 0 where
  pub some : IfSome o (λ x. (x ≢ a) × IsTrue (adjacent x))
  pub none : o ≡ None → (first ≡ None) × ((x : ℕ) → IsTrue (has xs x) → IsTrue (adjacent x) → x ≡ a)

pub other_more : (adjacent : ℕ → Bool) (a : ℕ) (first : Option ℕ) (xs : List ℕ) (i d : ℕ) (old new : Option ℕ) → i < length xs → IsOther adjacent a first (take i xs) old
    → (new ≡ old) ⊎ ((new ≡ Some (get_or xs i d)) × ((get_or xs i d ≢ a) × IsTrue (adjacent (get_or xs i d)))) → (new ≡ None → (old ≡ None) × (IsTrue (adjacent (get_or xs i d)) → get_or xs i d ≡ a))
    → IsOther adjacent a first (take (i + 1) xs) new
other_more adjacent a first xs i d old new h before one lone = record {
  some = elim one [
    | inl e ↦ subst (λ o. IfSome o (λ x. (x ≢ a) × IsTrue (adjacent x))) (sym e) before.some
    | inr k ↦ subst (λ o. IfSome o (λ x. (x ≢ a) × IsTrue (adjacent x))) (sym k.0) k.1
  ];
  none = λ e. let no = lone e in let was = before.none no.0 in (was.0, more_hold (λ x. IsTrue (adjacent x) → x ≡ a) xs i d h was.1 no.1);
}

-- parents of a block that are neither in its drafted ones nor in those of the base are none
pub other_end : (support base_support : ℕ → ℕ) (a : ℕ) (xs drafted : List ℕ) → Lists (λ x. nat_lt 0 (base_support x)) xs → ((x : ℕ) → has drafted x ≡ false → support x ≡ base_support x)
    → ((x : ℕ) → IsTrue (has xs x) → IsTrue (nat_lt 0 (support x)) → x ≡ a) → ((x : ℕ) → IsTrue (has drafted x) → IsTrue (nat_lt 0 (support x)) → x ≡ a) → (x : ℕ) → IsTrue (nat_lt 0 (support x)) → x ≡ a
other_end support base_support a xs drafted parents same in_base among x j = elim (cases_Bool (has drafted x)) [
  | inl there ↦ among x there j
  | inr off ↦ in_base x (parents.members x ∙ sym (ap (nat_lt 0) (same x off)) ∙ j) j
]

-- a block keeps its label when another number is given to a new one
put_free : (labels : List (Option ℕ)) (n v b l : ℕ) → at labels n ≡ None → at labels b ≡ Some l → at (put labels n v) b ≡ Some l
put_free [] n v b l free h = absurd (cc)
put_free (x ∷ xs) zero v zero l free h = absurd (let clash : None ≡ Some l = sym free ∙ h in cc)
put_free (x ∷ xs) zero v (suc b) l free h = h
put_free (x ∷ xs) (suc n) v zero l free h = h
put_free (x ∷ xs) (suc n) v (suc b) l free h = put_free xs n v b l free h

base_kept : (labels : List (Option ℕ)) (es : List (ℕ × ℕ)) (b l : ℕ) → AreLeastFree labels es → at labels b ≡ Some l → at (with_added labels es) b ≡ Some l
base_kept labels [] b l h k = k
base_kept labels (e ∷ es) b l h k = base_kept (put labels e.0 e.1) es b l h.1 (put_free labels e.0 e.1 b l h.0.free k)

-- a block of the base has its label as shown
pub same_label : (labels : List (Option ℕ)) (es : List (ℕ × ℕ)) (b l label : ℕ) → AreLeastFree labels es → at labels b ≡ Some l → l ≡ label → at (with_added labels es) b ≡ Some label
same_label labels es b l label h k e = base_kept labels es b l h k ∙ ap (λ m. Some m) e

-- a block of the base whose label is another has another one as shown
pub other_label : (labels : List (Option ℕ)) (es : List (ℕ × ℕ)) (b l label : ℕ) → AreLeastFree labels es → at labels b ≡ Some l → l ≢ label → at (with_added labels es) b ≢ Some label
other_label labels es b l label h k ne e = ne (let same : Some l ≡ Some label = sym (base_kept labels es b l h k) ∙ e in cc)
