-- A set of numbers below n that grows from step to step has come to its end after n steps.
use Rattle.std.proofs.Common.{◌≡◌, ℕ, zero, suc, ◌+◌, ◌<◌, ◌≤◌, ◌⊎◌, arith, inl, inr, true, Bool, not, ◌&&◌}
use Rattle.std.proofs.lemmas.Bool.{cases_Bool, and_parts, and_from, not-true, not_from_false, both_ways}
use Rattle.bisim_spec.specs.Below.{any_below, count_below}
use Rattle.bisim_spec.proofs.BelowLaws.{any_get, none_get, count_strict, count_few}

-- the numbers below n of the next step are in this one
abbrev pub IsLast : (ℕ → ℕ → Bool) → ℕ → ℕ → Type 0
IsLast P n i = (k : ℕ) → k < n → P (suc i) k ≡ true → P i k ≡ true

abbrev is_new : (ℕ → ℕ → Bool) → ℕ → ℕ → Bool
is_new P i k = P (suc i) k && not (P i k)

last_or_more : (P : ℕ → ℕ → Bool) → ((i k : ℕ) → P i k ≡ true → P (suc i) k ≡ true) → (n i : ℕ) → IsLast P n i ⊎ (count_below n (P i) < count_below n (P (suc i)))
last_or_more P grows n i = elim (cases_Bool (any_below n (is_new P i))) [
  | inl some ↦ inr (
      let k = any_get n (is_new P i) some in
      let e = and_parts (P (suc i) k.0) (not (P i k.0)) k.2 in
      count_strict n (P i) (P (suc i)) (λ m l. grows i m) k.0 k.1 (not-true (P i k.0) e.1) e.0)
  | inr none ↦ inl (λ k l e. elim (cases_Bool (P i k)) [
    | inl t ↦ t
    | inr f ↦ absurd (both_ways (is_new P i k) (none_get n (is_new P i) none k l) (and_from (P (suc i) k) (not (P i k)) e (not_from_false (P i k) f)))
  ])
]

last_or_many : (P : ℕ → ℕ → Bool) → ((i k : ℕ) → P i k ≡ true → P (suc i) k ≡ true) → (n i : ℕ) → ((j : ℕ) × (j < i) × IsLast P n j) ⊎ (i ≤ count_below n (P i))
last_or_many P grows n zero = inr (omega arith)
last_or_many P grows n (suc i) = elim (last_or_many P grows n i) [
  | inl (j, below, last) ↦ inl (j, omega arith, last)
  | inr many ↦ elim (last_or_more P grows n i) [
    | inl last ↦ inl (i, omega arith, last)
    | inr more ↦ inr (omega (arith, many, more))
  ]
]

pub comes_to_end : (P : ℕ → ℕ → Bool) → ((i k : ℕ) → P i k ≡ true → P (suc i) k ≡ true) → (n : ℕ) → (j : ℕ) × (j ≤ n) × IsLast P n j
comes_to_end P grows n = elim (last_or_many P grows n (n + 1)) [
  | inl (j, below, last) ↦ (j, omega (arith, below), last)
  | inr many ↦ absurd (let few = count_few n (P (n + 1)) in omega (arith, few, many))
]
