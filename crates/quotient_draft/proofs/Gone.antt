-- Blocks without members go.
use Rattle.std.proofs.Common.{◌≡◌, ◌≢◌, ℕ, zero, suc, ◌+◌, ◌<◌, ◌≤◌, ◌⊎◌, List, [], ◌∷◌, length, take, Option, Some, None, refl, sym, ◌∙◌, ap, subst, arith, inl, inr, true, false, Bool, ◌&&◌, cond, slice_set, slice_get, count_by, true≢false}
use Rattle.std.specs.Prelude.{nat_eq, not, ◌||◌}
use Rattle.std.proofs.lemmas.Bool.Decides.{eqb_tells}
use Rattle.std.proofs.lemmas.List.{get_or-set_other, length-set, take_all}
use Rattle.std.proofs.lemmas.List.Folds.{list_any-append}
use Rattle.std.proofs.lemmas.List.Sums.{sum_by-append}
use Rattle.graph_spec.specs.Members.{at, has, is_this}
use Rattle.quotient.specs.Quotients.{Quotient}
use Rattle.block_partition.specs.LabelledPartitions.{without_block}
use Rattle.quotient_draft.specs.Drafts.{has_member}
use Rattle.quotient_draft.specs.Retired.{IsRetired}
use Rattle.quotient_draft.proofs.AppliedDrafts.{take_next}
use Rattle.quotient_draft.proofs.PutLists.{at_with_put}
use Rattle.quotient_draft.proofs.DraftedMoves.{test_is}

-- whether a block has members is told by their number
pub member_first : (x : Option ℕ) (xs : List (Option ℕ)) (b : ℕ) → count_by (is_this b) (x ∷ xs) ≡ cond (is_this b x) 1 0 + count_by (is_this b) xs
member_first x xs b =
    let parts = sum_by-append (λ (o : Option ℕ). cond (is_this b o) 1 0) (x ∷ []) xs in
    omega (arith, parts)

bit_true : (t : Bool) → t ≡ true → 0 < cond t 1 0
bit_true true e = omega arith
bit_true false e = absurd (true≢false (sym e))

pub none_counted : (xs : List (Option ℕ)) (b : ℕ) → count_by (is_this b) xs ≡ 0 → has_member xs b ≡ false
none_counted [] b e = refl
none_counted (x ∷ xs) b e =
    let first = member_first x xs b in
    elim (test_is (is_this b x)) [
      | inl y ↦ absurd (let some = bit_true (is_this b x) y in omega (arith, first, e, some))
      | inr n ↦ ap (λ t. t || has_member xs b) n ∙ none_counted xs b (omega (arith, first, e))
    ]

pub some_counted : (xs : List (Option ℕ)) (b : ℕ) → 0 < count_by (is_this b) xs → has_member xs b ≡ true
some_counted [] b h = absurd (omega (arith, h))
some_counted (x ∷ xs) b h =
    let first = member_first x xs b in
    elim (test_is (is_this b x)) [
      | inl y ↦ ap (λ t. t || has_member xs b) y
      | inr n ↦ (
          let none : cond (is_this b x) 1 0 ≡ 0 = ap one_bit n in
          ap (λ t. t || has_member xs b) n ∙ some_counted xs b (omega (arith, first, h, none)))
    ]
  where
    one_bit : Bool → ℕ
    one_bit t = cond t 1 0

-- a node in the block
pub member_at : (xs : List (Option ℕ)) (b : ℕ) → has_member xs b ≡ true → (n : ℕ) × (at xs n ≡ Some b)
member_at [] b h = absurd (true≢false (sym h))
member_at (None ∷ xs) b h = (let rest = member_at xs b h in (suc rest.0, rest.1))
member_at (Some c ∷ xs) b h = elim (eqb_tells b c) [
  | inl s ↦ (0, ap (λ z. Some z) (sym s.1))
  | inr d ↦ (let rest = member_at xs b (sym (ap (λ t. t || has_member xs b) d.0) ∙ h) in (suc rest.0, rest.1))
]

pub member_there : (xs : List (Option ℕ)) (b n : ℕ) → at xs n ≡ Some b → has_member xs b ≡ true
member_there [] b n e = absurd (let clash : None ≡ Some b = e in cc)
member_there (x ∷ xs) b zero e = ap (λ o. is_this b o || has_member xs b) e ∙ own
  where
    own : is_this b (Some b) || has_member xs b ≡ true
    own = elim (eqb_tells b b) [ inl s ↦ ap (λ t. t || has_member xs b) s.0 | inr d ↦ absurd (d.1 refl) ]
member_there (x ∷ xs) b (suc n) e = ap (λ t. is_this b x || t) (member_there xs b n e) ∙ or_true (is_this b x)
  where
    or_true : (t : Bool) → t || true ≡ true
    or_true true = refl
    or_true false = refl

-- no member
pub none_at : (xs : List (Option ℕ)) (b n : ℕ) → has_member xs b ≡ false → at xs n ≢ Some b
none_at xs b n h e = true≢false (sym (member_there xs b n e) ∙ h)

-- one block

taken_at : (labels : List (Option ℕ)) (b c : ℕ) → at (slice_set labels b None) c ≡ cond (nat_eq c b) None (at labels c)
taken_at labels b c = elim (eqb_tells c b) [
  | inl s ↦ rw s.0 (ap (at (slice_set labels b None)) s.1 ∙ here)
  | inr d ↦ rw d.0 (get_or-set_other labels b c None None d.1)
]
  where
    here : at (slice_set labels b None) b ≡ None
    here = at_with_put labels b None b ∙ ap (λ t. cond t None (at labels b)) own
      where
        own : nat_eq b b ≡ true
        own = elim (eqb_tells b b) [ inl s ↦ s.0 | inr d ↦ absurd (d.1 refl) ]

among_one : (b c : ℕ) → has (b ∷ []) c ≡ nat_eq c b
among_one b c = by (nat_eq c b)
  where
    by : (t : Bool) → t || false ≡ t
    by true = refl
    by false = refl

and_true : (t : Bool) → t && true ≡ t
and_true true = refl
and_true false = refl

and_false : (t : Bool) → t && false ≡ false
and_false true = refl
and_false false = refl

pub retired_one : (old new : Quotient) (b : ℕ) → has_member old.blocks.block_of b ≡ false → new ≡ record old { blocks = without_block old.blocks b } → IsRetired (b ∷ []) old new
retired_one old new b none e = record {
  block_of = ap (λ (q : Quotient). q.blocks.block_of) e;
  supports = ap (λ (q : Quotient). q.supports) e;
  len = ap (λ (q : Quotient). length q.blocks.labels) e ∙ length-set old.blocks.labels b None;
  labels = λ c. ap (λ (q : Quotient). at q.blocks.labels c) e ∙ taken_at old.blocks.labels b c ∙ elim (eqb_tells c b) [
    | inl s ↦ (
        let test : (has (b ∷ []) c && not (has_member old.blocks.block_of c)) ≡ true = ap (λ t. t && not (has_member old.blocks.block_of c)) (among_one b c ∙ s.0) ∙ ap not (ap (has_member old.blocks.block_of) s.1 ∙ none) in
        ap (λ t. cond t None (at old.blocks.labels c)) s.0 ∙ sym (ap (λ t. cond t None (at old.blocks.labels c)) test))
    | inr d ↦ (
        let test : (has (b ∷ []) c && not (has_member old.blocks.block_of c)) ≡ false = ap (λ t. t && not (has_member old.blocks.block_of c)) (among_one b c ∙ d.0) in
        ap (λ t. cond t None (at old.blocks.labels c)) d.0 ∙ sym (ap (λ t. cond t None (at old.blocks.labels c)) test))
  ];
}

-- a number that is no block, or a block with members, stays
pub retired_none : (q : Quotient) (b : ℕ) → (at q.blocks.labels b ≡ None) ⊎ (has_member q.blocks.block_of b ≡ true) → IsRetired (b ∷ []) q q
retired_none q b h = record {
  block_of = refl;
  supports = refl;
  len = refl;
  labels = λ c. elim (eqb_tells c b) [
    | inl s ↦ elim h [
      | inl none ↦ (let is : at q.blocks.labels c ≡ None = ap (at q.blocks.labels) s.1 ∙ none in is ∙ sym (same c (has (b ∷ []) c && not (has_member q.blocks.block_of c)) is))
      | inr some ↦ (
          let test : (has (b ∷ []) c && not (has_member q.blocks.block_of c)) ≡ false = ap (λ t. has (b ∷ []) c && not t) (ap (has_member q.blocks.block_of) s.1 ∙ some) ∙ and_false (has (b ∷ []) c) in
          sym (ap (λ t. cond t None (at q.blocks.labels c)) test))
    ]
    | inr d ↦ (
        let test : (has (b ∷ []) c && not (has_member q.blocks.block_of c)) ≡ false = ap (λ t. t && not (has_member q.blocks.block_of c)) (among_one b c ∙ d.0) in
        sym (ap (λ t. cond t None (at q.blocks.labels c)) test))
  ];
}
  where
    same : (c : ℕ) (t : Bool) → at q.blocks.labels c ≡ None → cond t None (at q.blocks.labels c) ≡ None
    same c true e = refl
    same c false e = e

-- more blocks

pub retired_start : (q : Quotient) → IsRetired [] q q
retired_start q = record { block_of = refl; supports = refl; len = refl; labels = λ b. refl }

both_tests : (s t m : Bool) (o : Option ℕ) → cond (t && m) None (cond (s && m) None o) ≡ cond ((s || t) && m) None o
both_tests true true true o = refl
both_tests true true false o = refl
both_tests true false true o = refl
both_tests true false false o = refl
both_tests false true true o = refl
both_tests false true false o = refl
both_tests false false m o = refl

pub retired_both : (some more all : List ℕ) (old mid new : Quotient) → ((b : ℕ) → has all b ≡ (has some b || has more b)) → IsRetired some old mid → IsRetired more mid new → IsRetired all old new
retired_both some more all old mid new is r s = record {
  block_of = s.block_of ∙ r.block_of;
  supports = s.supports ∙ r.supports;
  len = s.len ∙ r.len;
  labels = λ b.
      s.labels b ∙ ap (λ (bs : List (Option ℕ)). cond (has more b && not (has_member bs b)) None (at mid.blocks.labels b)) r.block_of
      ∙ ap (λ o. cond (has more b && not (has_member old.blocks.block_of b)) None o) (r.labels b)
      ∙ both_tests (has some b) (has more b) (not (has_member old.blocks.block_of b)) (at old.blocks.labels b)
      ∙ ap (λ t. cond (t && not (has_member old.blocks.block_of b)) None (at old.blocks.labels b)) (sym (is b));
}

pub retired_next : (bs : List ℕ) (i b : ℕ) (old mid new : Quotient) → slice_get bs i ≡ Some b → IsRetired (take i bs) old mid → IsRetired (b ∷ []) mid new → IsRetired (take (i + 1) bs) old new
retired_next bs i b old mid new e r s =
    retired_both (take i bs) (b ∷ []) (take (i + 1) bs) old mid new (λ c. ap (λ (xs : List ℕ). has xs c) (take_next bs i b e) ∙ list_any-append (nat_eq c) (take i bs) (b ∷ [])) r s

-- all are taken
pub retired_all : (bs : List ℕ) (i : ℕ) (old new : Quotient) → length bs ≤ i → IsRetired (take i bs) old new → IsRetired bs old new
retired_all bs i old new all r = subst (λ (xs : List ℕ). IsRetired xs old new) (take_all i bs all) r
