-- The numbers of the blocks stay listed.
use Rattle.std.proofs.Common.{◌≡◌, ℕ, suc, ◌<◌, ◌≤◌, Bool, true, false, not, ◌&&◌, ◌||◌, List, [], ◌∷◌, ◌++◌, length, Option, Some, None, IsSome, is_some, refl, sym, ◌∙◌, ap, arith, inl, inr, slice_set, nat_eq}
use Rattle.std.proofs.lemmas.Bool.{cases_lt}
use Rattle.std.proofs.lemmas.Bool.Decides.{eqb_tells}
use Rattle.std.proofs.lemmas.List.{length-append, get_or-set_same, get_or-set_other, get_or_append_left, get_or_at, get_or_past}
use Rattle.graph_spec.specs.Members.{at, has}
use Rattle.block_partition.specs.Tables.{NumberSet}
use Rattle.block_partition.proofs.Counts.{some_within}
use Rattle.graph_spec.proofs.MemberLaws.{has_push, or_false}
use Rattle.block_partition.proofs.NumberSets.{and_none, and_true}

-- one number is taken out
pub record IsWithout (old new : NumberSet) (b : ℕ) : Type 0 where
  pub numbers : (m : ℕ) → has new.numbers m ≡ (has old.numbers m && not (nat_eq m b))
  pub len : suc (length new.numbers) ≡ length old.numbers
  pub span : new.span ≡ old.span
  pub capacity : new.capacity ≡ old.capacity

-- one number comes behind the others
abbrev pub with_number : NumberSet → ℕ → NumberSet
with_number s b = record s { numbers = s.numbers ++ b ∷ [] }

pub listed_retired : (lb : List (Option ℕ)) (xs ys : List ℕ) (b : ℕ) → ((m : ℕ) → has xs m ≡ is_some (at lb m)) → IsSome (at lb b)
    → ((m : ℕ) → has ys m ≡ (has xs m && not (nat_eq m b))) → (m : ℕ) → has ys m ≡ is_some (at (slice_set lb b None) m)
listed_retired lb xs ys b listed some removed m = elim (eqb_tells m b) [
  | inl s ↦
      removed m ∙ ap (λ t. has xs m && not t) s.0 ∙ and_none (has xs m)
      ∙ sym (ap (λ k. is_some (at (slice_set lb b None) k)) s.1 ∙ ap is_some (get_or-set_same lb b None None (some_within lb b some)))
  | inr d ↦
      removed m ∙ ap (λ t. has xs m && not t) d.0 ∙ and_true (has xs m) ∙ listed m ∙ sym (ap is_some (get_or-set_other lb b m None None d.1))
]

or_true : (b : Bool) → (b || true) ≡ true
or_true true = refl
or_true false = refl

-- the number that comes is listed, and each other one as before
here : (xs : List ℕ) (b m : ℕ) → nat_eq m b ≡ true → has (xs ++ b ∷ []) m ≡ true
here xs b m e = has_push xs b m ∙ ap (λ t. has xs m || t) e ∙ or_true (has xs m)

there : (xs : List ℕ) (b m : ℕ) → nat_eq m b ≡ false → has (xs ++ b ∷ []) m ≡ has xs m
there xs b m e = has_push xs b m ∙ ap (λ t. has xs m || t) e ∙ or_false (has xs m)

pub listed_again : (lb : List (Option ℕ)) (xs : List ℕ) (b l : ℕ) → ((m : ℕ) → has xs m ≡ is_some (at lb m)) → b < length lb
    → (m : ℕ) → has (xs ++ b ∷ []) m ≡ is_some (at (slice_set lb b (Some l)) m)
listed_again lb xs b l listed within m = elim (eqb_tells m b) [
  | inl s ↦
      here xs b m s.0
      ∙ sym (ap (λ k. is_some (at (slice_set lb b (Some l)) k)) s.1 ∙ ap is_some (get_or-set_same lb b (Some l) None within))
  | inr d ↦ there xs b m d.0 ∙ listed m ∙ sym (ap is_some (get_or-set_other lb b m (Some l) None d.1))
]

pub listed_next : (lb : List (Option ℕ)) (xs : List ℕ) (b l : ℕ) → ((m : ℕ) → has xs m ≡ is_some (at lb m)) → b ≡ length lb
    → (m : ℕ) → has (xs ++ b ∷ []) m ≡ is_some (at (lb ++ Some l ∷ []) m)
listed_next lb xs b l listed next m = elim (eqb_tells m b) [
  | inl s ↦ here xs b m s.0 ∙ sym (ap is_some (get_or_at lb (Some l) [] None m (sym (s.1 ∙ next))))
  | inr d ↦ there xs b m d.0 ∙ listed m ∙ ap is_some (same d.1)
]
  where
    same : (m ≡ b → ⊥) → at lb m ≡ at (lb ++ Some l ∷ []) m
    same d = elim (cases_lt m (length lb)) [
      | inl h ↦ sym (get_or_append_left lb (Some l ∷ []) None m h)
      | inr past ↦ (
          let len = length-append lb (Some l ∷ []) in
          let more : length (lb ++ Some l ∷ []) ≤ m = omega (arith, len, past, next, d) in
          get_or_past lb m None past ∙ sym (get_or_past (lb ++ Some l ∷ []) m None more))
    ]
