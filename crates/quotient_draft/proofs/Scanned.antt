-- The numbers of further blocks, and the next one.
use Rattle.std.proofs.Common.{◌≡◌, ◌≢◌, ℕ, zero, suc, ◌+◌, ◌-◌, ◌<◌, ◌≤◌, List, [], ◌∷◌, ◌++◌, length, Option, Some, None, IsSome, is_some, refl, sym, ◌∙◌, ap, arith, inl, inr, cond, slice_get, true≢false, count_by}
use Rattle.std.specs.Prelude.{nat_eq}
use Rattle.std.specs.Map.{lookup}
use Rattle.std.proofs.lemmas.Bool.{cases_lt}
use Rattle.std.proofs.lemmas.Bool.Decides.{eqb_tells}
use Rattle.std.proofs.lemmas.List.Sums.{sum_by-append}
use Rattle.graph_spec.specs.Members.{at}
use Rattle.block_partition.specs.LabelledPartitions.{put, IsLeastFree}
use Rattle.quotient_draft.specs.Drafts.{with_added}
use Rattle.quotient_draft.specs.Basis.{AreLeastFree}
use Rattle.quotient_draft.specs.Scans.{from_after}
use Rattle.block_partition.proofs.PutNumbers.{at_put}
use Rattle.quotient_draft.proofs.PutLists.{some_put, put_some}

-- blocks stay blocks
pub added_some : (labels : List (Option ℕ)) (es : List (ℕ × ℕ)) (b : ℕ) → IsSome (at labels b) → IsSome (at (with_added labels es) b)
added_some labels [] b h = h
added_some labels (e ∷ es) b h = added_some (put labels e.0 e.1) es b (some_put labels e.0 e.1 b h)

free_apart : (labels : List (Option ℕ)) (a b : ℕ) → at labels a ≡ None → IsSome (at labels b) → b ≢ a
free_apart labels a b free some e = true≢false (sym some ∙ ap (λ c. is_some (at labels c)) e ∙ ap is_some free)

-- and keep their labels
pub added_stays : (labels : List (Option ℕ)) (es : List (ℕ × ℕ)) (b : ℕ) → AreLeastFree labels es → IsSome (at labels b) → at (with_added labels es) b ≡ at labels b
added_stays labels [] b h some = refl
added_stays labels (e ∷ es) b h some = elim (eqb_tells b e.0) [
  | inl s ↦ absurd (free_apart labels e.0 b h.0.free some s.1)
  | inr d ↦ added_stays (put labels e.0 e.1) es b h.1 (some_put labels e.0 e.1 b some) ∙ at_put labels e.0 e.1 b ∙ rw d.0 refl
]

pub added_absent : (labels : List (Option ℕ)) (es : List (ℕ × ℕ)) (b : ℕ) → lookup (nat_eq b) es ≡ None → at (with_added labels es) b ≡ at labels b
added_absent labels [] b none = refl
added_absent labels (e ∷ es) b none = elim (eqb_tells b e.0) [
  | inl s ↦ absurd (let found : lookup (nat_eq b) (e ∷ es) ≡ Some e.1 = rw s.0 refl in let clash : Some e.1 ≡ None = sym found ∙ none in cc)
  | inr d ↦ (
      let rest : lookup (nat_eq b) (e ∷ es) ≡ lookup (nat_eq b) es = rw d.0 refl in
      added_absent (put labels e.0 e.1) es b (sym rest ∙ none) ∙ at_put labels e.0 e.1 b ∙ rw d.0 refl)
]

pub added_found : (labels : List (Option ℕ)) (es : List (ℕ × ℕ)) (b l : ℕ) → AreLeastFree labels es → lookup (nat_eq b) es ≡ Some l → at (with_added labels es) b ≡ Some l
added_found labels [] b l h found = absurd (cc)
added_found labels (e ∷ es) b l h found = elim (eqb_tells b e.0) [
  | inl s ↦ (
      let here : lookup (nat_eq b) (e ∷ es) ≡ Some e.1 = rw s.0 refl in
      let there : at (put labels e.0 e.1) b ≡ Some e.1 = at_put labels e.0 e.1 b ∙ rw s.0 refl in
      added_stays (put labels e.0 e.1) es b h.1 (ap is_some there) ∙ there ∙ sym here ∙ found)
  | inr d ↦ (
      let rest : lookup (nat_eq b) (e ∷ es) ≡ lookup (nat_eq b) es = rw d.0 refl in
      added_found (put labels e.0 e.1) es b l h.1 (sym rest ∙ found))
]

-- below the next number all are blocks, and the last one is below it

below_put : (labels : List (Option ℕ)) (b l c : ℕ) → IsLeastFree labels b → c < b + 1 → IsSome (at (put labels b l) c)
below_put labels b l c least h = elim (cases_lt c b) [
  | inl less ↦ some_put labels b l c (least.least c less)
  | inr past ↦ (let same : c ≡ b = omega (arith, h, past) in ap (λ m. is_some (at (put labels b l) m)) same ∙ put_some labels b l)
]

pub from_below : (from : ℕ) (labels : List (Option ℕ)) (es : List (ℕ × ℕ)) → ((c : ℕ) → c < from → IsSome (at labels c)) → AreLeastFree labels es → from ≤ from_after from es
from_below from labels [] below h = omega arith
from_below from labels (e ∷ es) below h = elim (cases_lt e.0 from) [
  | inl less ↦ absurd (true≢false (sym (below e.0 less) ∙ ap is_some h.0.free))
  | inr more ↦ (let rest = from_below (e.0 + 1) (put labels e.0 e.1) es (λ c. below_put labels e.0 e.1 c h.0) h.1 in omega (arith, more, rest))
]

pub below_some : (from : ℕ) (labels : List (Option ℕ)) (es : List (ℕ × ℕ)) → ((c : ℕ) → c < from → IsSome (at labels c)) → AreLeastFree labels es
    → (c : ℕ) → c < from_after from es → IsSome (at (with_added labels es) c)
below_some from labels [] below h c less = below c less
below_some from labels (e ∷ es) below h c less = below_some (e.0 + 1) (put labels e.0 e.1) es (λ d. below_put labels e.0 e.1 d h.0) h.1 c less

pub past_same : (from : ℕ) (labels : List (Option ℕ)) (es : List (ℕ × ℕ)) → ((c : ℕ) → c < from → IsSome (at labels c)) → AreLeastFree labels es
    → (b : ℕ) → from_after from es ≤ b → at (with_added labels es) b ≡ at labels b
past_same from labels [] below h b past = refl
past_same from labels (e ∷ es) below h b past =
    let next : (c : ℕ) → c < e.0 + 1 → IsSome (at (put labels e.0 e.1) c) = λ c. below_put labels e.0 e.1 c h.0 in
    let more = from_below (e.0 + 1) (put labels e.0 e.1) es next h.1 in
    elim (eqb_tells b e.0) [
      | inl s ↦ absurd (let same = s.1 in omega (arith, same, more, past))
      | inr d ↦ past_same (e.0 + 1) (put labels e.0 e.1) es next h.1 b past ∙ at_put labels e.0 e.1 b ∙ rw d.0 refl
    ]

pub count_some : (xs : List (Option ℕ)) (l : ℕ) → count_by is_some (Some l ∷ xs) ≡ suc (count_by is_some xs)
count_some xs l =
    let parts : count_by is_some (Some l ∷ xs) ≡ count_by is_some (Some l ∷ []) + count_by is_some xs = sum_by-append (λ (o : Option ℕ). cond (is_some o) 1 0) (Some l ∷ []) xs in
    let one : count_by is_some (Some l ∷ []) ≡ 1 = refl in
    omega (arith, parts, one)

abbrev no_label : List (Option ℕ)
no_label = None ∷ []

pub count_none : (xs : List (Option ℕ)) → count_by is_some (None ∷ xs) ≡ count_by is_some xs
count_none xs =
    let parts : count_by is_some (no_label ++ xs) ≡ count_by is_some no_label + count_by is_some xs = sum_by-append (λ (o : Option ℕ). cond (is_some o) 1 0) no_label xs in
    let zero_is : count_by is_some no_label ≡ 0 = refl in
    omega (arith, parts, zero_is)

-- so many numbers are blocks
pub below_count : (labels : List (Option ℕ)) (b : ℕ) → ((c : ℕ) → c < b → IsSome (at labels c)) → b ≤ count_by is_some labels
below_count labels zero h = omega arith
below_count [] (suc b) h = absurd (true≢false (sym (h 0 (omega arith))))
below_count (None ∷ xs) (suc b) h = absurd (true≢false (sym (h 0 (omega arith))))
below_count (Some x ∷ xs) (suc b) h =
    let rest = below_count xs b (λ c l. h (suc c) (omega (arith, l))) in
    let all = count_some xs x in
    omega (arith, rest, all)

pub from_few : (labels : List (Option ℕ)) (es : List (ℕ × ℕ)) → AreLeastFree labels es → from_after 0 es ≤ count_by is_some (with_added labels es)
from_few labels es h = below_count (with_added labels es) (from_after 0 es) (below_some 0 labels es (λ c l. absurd (omega (arith, l))) h)

-- the next free number from there on is the least
pub next_least : (labels : List (Option ℕ)) (es : List (ℕ × ℕ)) (b : ℕ) → AreLeastFree labels es → at labels b ≡ None → from_after 0 es ≤ b
    → ((c : ℕ) → from_after 0 es ≤ c → c < b → IsSome (at labels c)) → IsLeastFree (with_added labels es) b
next_least labels es b h free from passed =
    let none : (c : ℕ) → c < 0 → IsSome (at labels c) = λ c l. absurd (omega (arith, l)) in
    record {
      free = past_same 0 labels es none h b from ∙ free;
      least = λ c l. elim (cases_lt c (from_after 0 es)) [
        | inl low ↦ below_some 0 labels es none h c low
        | inr high ↦ added_some labels es c (passed c high l)
      ];
    }

-- it isn't among them
pub least_new : (labels : List (Option ℕ)) (es : List (ℕ × ℕ)) (b : ℕ) → AreLeastFree labels es → at (with_added labels es) b ≡ None → lookup (nat_eq b) es ≡ None
least_new labels es b h free = by (lookup (nat_eq b) es) refl
  where
    by : (o : Option ℕ) → lookup (nat_eq b) es ≡ o → lookup (nat_eq b) es ≡ None
    by None e = e
    by (Some l) e = absurd (let clash : Some l ≡ None = sym (added_found labels es b l h e) ∙ free in cc)

-- the number behind the last one
pub last_after : (from : ℕ) (es : List (ℕ × ℕ)) (e : ℕ × ℕ) → slice_get es (length es - 1) ≡ Some e → from_after from es ≡ e.0 + 1
last_after from [] e h = absurd (cc)
last_after from (f ∷ []) e h = ap (λ (x : ℕ × ℕ). x.0 + 1) (let same : f ≡ e = cc in same)
last_after from (f ∷ (g ∷ es)) e h =
    let place : length (f ∷ (g ∷ es)) - 1 ≡ suc (length (g ∷ es) - 1) = omega arith in
    last_after (f.0 + 1) (g ∷ es) e (sym (ap (slice_get (f ∷ (g ∷ es))) place) ∙ h)

-- one more
pub added_more : (labels : List (Option ℕ)) (es : List (ℕ × ℕ)) (b l : ℕ) → with_added labels (es ++ (b, l) ∷ []) ≡ put (with_added labels es) b l
added_more labels [] b l = refl
added_more labels (e ∷ es) b l = added_more (put labels e.0 e.1) es b l

pub least_more : (labels : List (Option ℕ)) (es : List (ℕ × ℕ)) (b l : ℕ) → AreLeastFree labels es → IsLeastFree (with_added labels es) b → AreLeastFree labels (es ++ (b, l) ∷ [])
least_more labels [] b l h least = (least, tt)
least_more labels (e ∷ es) b l h least = (h.0, least_more (put labels e.0 e.1) es b l h.1 least)
