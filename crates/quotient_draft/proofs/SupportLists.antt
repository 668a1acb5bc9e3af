-- Lists of the blocks that have support.
use Rattle.std.proofs.Common.{◌≡◌, ℕ, ◌<◌, List, [], ◌∷◌, ◌++◌, refl, sym, ◌∙◌, ap, subst, arith, true, false, Bool, ◌&&◌, ◌||◌, filter}
use Rattle.std.specs.Prelude.{nat_eq}
use Rattle.std.specs.Ordering.{nat_cmp}
use Rattle.std.specs.Cmp.{ranked}
use Rattle.std.specs.List.{IsDistinct, AllByRecursion}
use Rattle.std.specs.List.Sorted.{IsStrictlySortedBy, IsStrictlyIncreasing}
use Rattle.std.specs.declared.cmp.Ordering.TheVariants.{Less}
use Rattle.std.proofs.lemmas.List.Folds.{list_any-append}
use Rattle.std.proofs.lemmas.List.Kept.{IsStrictlyIncreasing-filter}
use Rattle.std.proofs.lemmas.Map.Keys.{sorted_from_strictly_increasing}
use Rattle.std.proofs.lemmas.Map.Views.{any-filter_same}
use Rattle.graph_spec.specs.Members.{Lists, has}
use Rattle.quotient_draft.proofs.DraftedMoves.{number_is}

above_differ : (x : ℕ) (xs : List ℕ) → AllByRecursion (λ y. nat_cmp x y ≡ Less) xs → AllByRecursion (λ y. nat_eq x y ≡ false) xs
above_differ x [] h = h
above_differ x (y ∷ ys) h = (apart, above_differ x ys h.1)
  where
    apart : nat_eq x y ≡ false
    apart = let less : x < y = ranked x y Less (sym h.0) in grind (arith, less)

sorted_once : (xs : List ℕ) → IsStrictlySortedBy nat_cmp xs → IsDistinct nat_eq xs
unfolding IsStrictlySortedBy IsDistinct
sorted_once [] h = h
sorted_once (x ∷ xs) h = (above_differ x xs h.0, sorted_once xs h.1)

settle : (p q d : Bool) → (d ≡ false → p ≡ q) → (p && (q || d)) ≡ p
settle false q d h = refl
settle true true d h = refl
settle true false true h = refl
settle true false false h = sym (h refl)

-- what passes p is among the members of two lists, the first of which has just what passes q, and the second all at which the
-- tests differ
pub kept_lists : (p q : ℕ → Bool) (base drafted set kept : List ℕ) → Lists q base → ((a : ℕ) → has drafted a ≡ false → p a ≡ q a) → IsStrictlyIncreasing set
    → ((a : ℕ) → has set a ≡ has (base ++ drafted) a) → kept ≡ filter p set → Lists p kept
kept_lists p q base drafted set kept l other rising same e = record {
  once = sorted_once kept (sorted_from_strictly_increasing kept (subst IsStrictlyIncreasing (sym e) (IsStrictlyIncreasing-filter p set rising)));
  members = λ n.
      ap (λ xs. has xs n) e ∙ any-filter_same (nat_eq n) p (p n) (λ k t. ap p (sym (number_is n k t))) set
      ∙ ap (λ c. p n && c) (same n ∙ list_any-append (nat_eq n) base drafted ∙ ap (λ c. c || has drafted n) (l.members n))
      ∙ settle (p n) (q n) (has drafted n) (other n);
}

pub kept_rising : (p : ℕ → Bool) (set kept : List ℕ) → IsStrictlyIncreasing set → kept ≡ filter p set → IsStrictlyIncreasing kept
kept_rising p set kept rising e = subst IsStrictlyIncreasing (sym e) (IsStrictlyIncreasing-filter p set rising)

-- nothing passes
pub lists_none : (p : ℕ → Bool) → ((n : ℕ) → p n ≡ false) → Lists p []
unfolding IsDistinct
lists_none p none = record { once = tt; members = λ n. sym (none n) }

-- the same numbers pass
pub lists_as : (p q : ℕ → Bool) (xs : List ℕ) → ((n : ℕ) → p n ≡ q n) → Lists p xs → Lists q xs
lists_as p q xs same l = record { once = l.once; members = λ n. l.members n ∙ same n }

-- where one of the blocks isn't one, there is no support
pub unjoined : (x y z : Bool) → (x && (y && z)) ≡ x → ((y && z) ≡ false) → x ≡ false
unjoined false y z h n = refl
unjoined true y z h n = sym h ∙ n

pub and_off : (y z : Bool) → z ≡ false → (y && z) ≡ false
and_off true z h = h
and_off false z h = refl
