-- Lists of rising numbers, each once.
use Rattle.std.proofs.Common.{◌≡◌, ℕ, suc, ◌<◌, List, [], ◌∷◌, sym, ◌∙◌, ap, subst, arith, inl, inr, true, false, Contains, true≢false}
use Rattle.std.specs.Prelude.{nat_eq}
use Rattle.std.specs.Ordering.{nat_cmp}
use Rattle.std.specs.Cmp.{ranked, both_ways}
use Rattle.std.specs.List.{dedup, IsDistinct, AllByRecursion}
use Rattle.std.specs.List.Sorted.{IsSorted, IsPermutation, IsStrictlySortedBy, IsStrictlyIncreasing}
use Rattle.std.specs.declared.cmp.Ordering.TheVariants.{Less}
use Rattle.std.proofs.lemmas.List.Sorted.{list_any-IsPermutation}
use Rattle.std.proofs.lemmas.List.Kept.{Contains-dedup_nat, Contains-from_dedup}
use Rattle.std.proofs.lemmas.Map.Keys.{IsStrictlyIncreasing-dedup, sorted_from_strictly_increasing}
use Rattle.graph_spec.specs.Members.{has}
use Rattle.graph_spec.proofs.MemberLaws.{has_cases, has_at}

has_from : (xs : List ℕ) (x : ℕ) → Contains xs x → has xs x ≡ true
has_from xs x h = subst (λ n. has xs n ≡ true) h.2 (has_at xs h.0 x h.1)

contains_from : (xs : List ℕ) (x : ℕ) → has xs x ≡ true → Contains xs x
contains_from [] x h = absurd (true≢false (sym h))
contains_from (y ∷ ys) x h = elim (has_cases y ys x h) [
  | inl e ↦ (0, omega arith, sym e)
  | inr t ↦ let r = contains_from ys x t in (suc r.0, (let l = r.1 in omega arith), r.2)
]

-- what is left of sorted numbers without repeats rises
pub deduped_rising : (sorted kept : List ℕ) → IsSorted nat_cmp sorted → kept ≡ dedup nat_eq sorted → IsStrictlyIncreasing kept
deduped_rising sorted kept is_sorted kept_is = subst IsStrictlyIncreasing (sym kept_is) (IsStrictlyIncreasing-dedup sorted is_sorted)

above_differ : (x : ℕ) (xs : List ℕ) → AllByRecursion (λ y. nat_cmp x y ≡ Less) xs → AllByRecursion (λ y. nat_eq x y ≡ false) xs
above_differ x [] h = h
above_differ x (y ∷ ys) h = (apart, above_differ x ys h.1)
  where
    apart : nat_eq x y ≡ false
    apart = let less : x < y = ranked x y Less (sym h.0) in grind (arith, less)

sorted_once : (xs : List ℕ) → IsStrictlySortedBy nat_cmp xs → IsDistinct nat_eq xs
unfolding IsStrictlySortedBy IsDistinct
sorted_once [] h = h
sorted_once (x ∷ xs) h = (above_differ x xs h.0, sorted_once xs h.1)

-- so each is there once
pub deduped_once : (sorted kept : List ℕ) → IsSorted nat_cmp sorted → kept ≡ dedup nat_eq sorted → IsDistinct nat_eq kept
deduped_once sorted kept is_sorted kept_is = sorted_once kept (sorted_from_strictly_increasing kept (deduped_rising sorted kept is_sorted kept_is))

-- and has the numbers of the list that was sorted
pub deduped_same : (raw sorted kept : List ℕ) → IsPermutation raw sorted → kept ≡ dedup nat_eq sorted → (b : ℕ) → has kept b ≡ has raw b
deduped_same raw sorted kept perm kept_is b =
    ap (λ xs. has xs b) kept_is
    ∙ both_ways (has (dedup nat_eq sorted) b) (has sorted b)
    (λ h. has_from sorted b (Contains-from_dedup nat_eq sorted b (contains_from (dedup nat_eq sorted) b h)))
    (λ h. has_from (dedup nat_eq sorted) b (Contains-dedup_nat sorted b (contains_from sorted b h)))
    ∙ sym (list_any-IsPermutation (nat_eq b) raw sorted perm)
