-- Blocks that have members, and how many there are.
use Rattle.std.proofs.Common.{◌≡◌, ◌≢◌, ℕ, zero, suc, ◌<◌, List, [], ◌∷◌, Option, Some, None, IsSome, is_some, length, sym, ◌∙◌, ap, subst, arith, inl, inr, true, false, cond, count_by, true≢false}
use Rattle.std.proofs.lemmas.Bool.{cases_Bool, cases_lt, both_ways, or_cases, or_left, or_right}
use Rattle.std.proofs.lemmas.Bool.Decides.{eqb_tells}
use Rattle.std.proofs.lemmas.List.{get_or_past}
use Rattle.std.proofs.lemmas.List.Sums.{sum_by-cons}
use Rattle.graph_spec.specs.Members.{at, is_this}
use Rattle.bisim_spec.specs.Below.{count_below}
use Rattle.bisim_spec.proofs.BelowLaws.{bit_of, count_strict}
use Rattle.bisim_spec.proofs.Moves.{block_get, block_from}
use Rattle.one_spec.specs.Merges.{IsMerged}
use Rattle.one_spec.proofs.MergedPairs.{unmerged, merged_gone}
use Rattle.quotient_draft.specs.Drafts.{has_member}

pub member_get : (p : List (Option ℕ)) (b : ℕ) → has_member p b ≡ true → (n : ℕ) × (at p n ≡ Some b)
member_get [] b h = absurd (cc)
member_get (o ∷ p) b h = elim (or_cases (is_this b o) (has_member p b) h) [
  | inl here ↦ (0, block_get b o here)
  | inr there ↦ (let k = member_get p b there in (suc k.0, k.1))
]

pub member_from : (p : List (Option ℕ)) (b n : ℕ) → at p n ≡ Some b → has_member p b ≡ true
member_from [] b n h = absurd (cc)
member_from (o ∷ p) b zero h = or_left (is_this b o) (has_member p b) (block_from b o h)
member_from (o ∷ p) b (suc n) h = or_right (is_this b o) (has_member p b) (member_from p b n h)

-- a block has members where more than none are counted
pub counted_member : (p : List (Option ℕ)) (b : ℕ) → 0 < count_by (is_this b) p → has_member p b ≡ true
counted_member [] b h = absurd (omega (arith, h))
counted_member (o ∷ p) b h = elim (cases_Bool (is_this b o)) [
  | inl on ↦ or_left (is_this b o) (has_member p b) on
  | inr off ↦ or_right (is_this b o) (has_member p b) (counted_member p b (
      let e = sum_by-cons (λ (q : Option ℕ). cond (is_this b q) 1 0) o p in
      let z : bit_of (is_this b o) ≡ 0 = ap bit_of off in
      omega (arith, h, e, z)))
]

pub member_counted : (p : List (Option ℕ)) (b : ℕ) → has_member p b ≡ true → 0 < count_by (is_this b) p
member_counted [] b h = absurd (cc)
member_counted (o ∷ p) b h =
    let e = sum_by-cons (λ (q : Option ℕ). cond (is_this b q) 1 0) o p in
    elim (or_cases (is_this b o) (has_member p b) h) [
      | inl here ↦ (let z : bit_of (is_this b o) ≡ 1 = ap bit_of here in omega (arith, e, z))
      | inr there ↦ (let k = member_counted p b there in omega (arith, e, k))
    ]

pub none_counted : (p : List (Option ℕ)) (b n : ℕ) → (0 < count_by (is_this b) p → ⊥) → at p n ≢ Some b
none_counted p b n none e = none (member_counted p b (member_from p b n e))

-- a block without a label has no members
pub unlabelled : (p : List (Option ℕ)) (labels : ℕ → Option ℕ) (b n : ℕ) → ((n b : ℕ) → at p n ≡ Some b → IsSome (labels b)) → is_some (labels b) ≡ false → at p n ≢ Some b
unlabelled p labels b n live off e = both_ways (is_some (labels b)) off (live n b e)

some_below : (xs : List (Option ℕ)) (n : ℕ) → IsSome (at xs n) → n < length xs
some_below xs n h = elim (cases_lt n (length xs)) [
  | inl l ↦ l
  | inr past ↦ absurd (true≢false (sym h ∙ ap is_some (get_or_past xs n None past)))
]

-- a merge leaves one block fewer with members
pub fewer : (p p2 labels labels2 : List (Option ℕ)) (a b : ℕ) → a ≢ b → IsMerged a b p p2 → ((n : ℕ) × (at p n ≡ Some a)) → ((n : ℕ) × (at p n ≡ Some b))
    → ((n b : ℕ) → at p n ≡ Some b → IsSome (at labels b)) → labels2 ≡ labels → count_below (length labels2) (has_member p2) < count_below (length labels) (has_member p)
fewer p p2 labels labels2 a b ne m first second live same =
    subst (λ xs. count_below (length xs) (has_member p2) < count_below (length labels) (has_member p)) (sym same) (
    count_strict (length labels) (has_member p2) (has_member p) (λ k l h. was k h) b (some_below labels b (live second.0 b second.1)) gone (member_from p b second.0 second.1))
  where
    was : (k : ℕ) → has_member p2 k ≡ true → has_member p k ≡ true
    was k h = elim (eqb_tells k a) [
      | inl t ↦ member_from p k first.0 (first.1 ∙ ap Some (sym t.1))
      | inr f ↦ (let n = member_get p2 k h in member_from p k n.0 (unmerged a b p p2 k n.0 m f.1 n.1))
    ]

    gone : has_member p2 b ≡ false
    gone = elim (cases_Bool (has_member p2 b)) [
      | inl on ↦ absurd (let n = member_get p2 b on in merged_gone a b p p2 n.0 m ne n.1)
      | inr off ↦ off
    ]
