-- A relation that grows finer from level to level doesn't do so for ever: at some level that is at most the number of
-- nodes, a level is the next one.
use Rattle.std.proofs.Common.{◌≡◌, ℕ, zero, suc, ◌+◌, ◌<◌, ◌≤◌, ◌⊎◌, sym, ◌∙◌, arith, inl, inr, true, false, Bool, not, ◌&&◌}
use Rattle.std.proofs.lemmas.Bool.{cases_lt, cases_Bool, and_parts, and_from, and_right, not-true, not_from_true, not_from_false, false_from_ne_true, both_ways}
use Rattle.bisim_spec.specs.Below.{any_below, count_below}
use Rattle.bisim_spec.proofs.BelowLaws.{any_get, any_from, none_get, least, count_mono, count_strict}

-- levels of a relation that grows finer, each an equivalence of the numbers that are related at all
pub record Levels (R : ℕ → ℕ → ℕ → Bool) : Type 0 where
  pub symm : (i u v : ℕ) → R i u v ≡ true → R i v u ≡ true
  pub trans : (i u v w : ℕ) → R i u v ≡ true → R i v w ≡ true → R i u w ≡ true
  pub self : (i n : ℕ) → R i n n ≡ R 0 n n
  pub finer : (i u v : ℕ) → R (suc i) u v ≡ true → R i u v ≡ true

-- the numbers below n that this level relates are related by the next one
abbrev pub IsNext : (ℕ → ℕ → ℕ → Bool) → ℕ → ℕ → Type 0
IsNext R n i = (u v : ℕ) → u < n → v < n → R i u v ≡ true → R (suc i) u v ≡ true

-- n is the least of its class
abbrev is_least : (ℕ → ℕ → ℕ → Bool) → ℕ → ℕ → Bool
is_least R i n = R i n n && not (any_below n (λ m. R i m n))

-- none before n is of its class
none_before : (R : ℕ → ℕ → ℕ → Bool) (i n : ℕ) → is_least R i n ≡ true → any_below n (λ m. R i m n) ≡ false
none_before R i n h = not-true (any_below n (λ m. R i m n)) (and_parts (R i n n) (not (any_below n (λ m. R i m n))) h).1

-- the least of a class stays the least of its class one level up
stays_least : (R : ℕ → ℕ → ℕ → Bool) → Levels R → (i n : ℕ) → is_least R i n ≡ true → is_least R (suc i) n ≡ true
stays_least R l i n h =
    let a = and_parts (R i n n) (not (any_below n (λ m. R i m n))) h in
    let none : any_below n (λ m. R (suc i) m n) ≡ false =
    false_from_ne_true (any_below n (λ m. R (suc i) m n)) (λ some.
    let m = any_get n (λ m. R (suc i) m n) some in
    both_ways (R i m.0 n) (none_get n (λ m. R i m n) (none_before R i n h) m.0 m.1) (l.finer i m.0 n m.2))
    in
    and_from (R (suc i) n n) (not (any_below n (λ m. R (suc i) m n))) (l.self (suc i) n ∙ sym (l.self i n) ∙ a.0) (not_from_false (any_below n (λ m. R (suc i) m n)) none)

-- the least of the class of x, one level up, where w was the least one level below and is related to x no more
record Parted (R : ℕ → ℕ → ℕ → Bool) (i n : ℕ) : Type 0 where
  first : ℕ
  below : first < n
  new : is_least R (suc i) first ≡ true
  old : is_least R i first ≡ false

parted : (R : ℕ → ℕ → ℕ → Bool) → Levels R → (i w x n : ℕ) → x < n → R i w x ≡ true → R (suc i) w x ≡ false → ((m : ℕ) → m < w → R i m w ≡ false) → Parted R i n
parted R l i w x n below within_distance apart first =
    let back = l.symm i w x within_distance in
    let self : R (suc i) x x ≡ true = l.self (suc i) x ∙ sym (l.self i x) ∙ l.trans i x w x back within_distance in
    let y = least n (λ m. R (suc i) m x) (any_from n (λ m. R (suc i) m x) x below self) in
    let y_w : R i y.0 w ≡ true = l.trans i y.0 x w (l.finer i y.0 x y.2) back in
    let above : w < y.0 = elim (cases_lt w y.0) [
      | inl a ↦ a
      | inr b ↦ absurd (elim (cases_lt y.0 w) [
        | inl c ↦ both_ways (R i y.0 w) (first y.0 c) y_w
        | inr d ↦ (let e : y.0 ≡ w = omega arith in let z : R (suc i) w x ≡ true = rw (← e) y.2 in both_ways (R (suc i) w x) apart z)
      ])
    ] in
    let y_self : R (suc i) y.0 y.0 ≡ true = l.trans (suc i) y.0 x y.0 y.2 (l.symm (suc i) y.0 x y.2) in
    let none : any_below y.0 (λ m. R (suc i) m y.0) ≡ false =
    false_from_ne_true (any_below y.0 (λ m. R (suc i) m y.0)) (λ some.
    let m = any_get y.0 (λ m. R (suc i) m y.0) some in
    both_ways (R (suc i) m.0 x) (none_get y.0 (λ m. R (suc i) m x) y.3 m.0 m.1) (l.trans (suc i) m.0 y.0 x m.2 y.2))
    in
    record {
      first = y.0;
      below = y.1;
      new = and_from (R (suc i) y.0 y.0) (not (any_below y.0 (λ m. R (suc i) m y.0))) y_self (not_from_false (any_below y.0 (λ m. R (suc i) m y.0)) none);
      old =
          and_right (R i y.0 y.0) (not (any_below y.0 (λ m. R i m y.0)))
          (not_from_true (any_below y.0 (λ m. R i m y.0)) (any_from y.0 (λ m. R i m y.0) w above (l.symm i y.0 w y_w)));
    }

-- where a class is split, a number is the least of its class that wasn't one level below
splits : (R : ℕ → ℕ → ℕ → Bool) → Levels R → (i u v n : ℕ) → u < n → v < n → R i u v ≡ true → R (suc i) u v ≡ false → Parted R i n
splits R l i u v n hu hv same apart =
    let self : R i u u ≡ true = l.trans i u v u same (l.symm i u v same) in
    let w = least n (λ m. R i m u) (any_from n (λ m. R i m u) u hu self) in
    let first : (m : ℕ) → m < w.0 → R i m w.0 ≡ false = λ m h. false_from_ne_true (R i m w.0) (λ within_distance.
    both_ways (R i m u) (none_get w.0 (λ m. R i m u) w.3 m h) (l.trans i m w.0 u within_distance w.2))
    in
    elim (cases_Bool (R (suc i) w.0 u)) [
      | inl within_distance ↦ parted R l i w.0 v n hv (l.trans i w.0 u v w.2 same)
          (false_from_ne_true (R (suc i) w.0 v) (λ t. both_ways (R (suc i) u v) apart (l.trans (suc i) u w.0 v (l.symm (suc i) w.0 u within_distance) t))) first
      | inr far ↦ parted R l i w.0 u n hu w.2 far first
    ]

-- how many classes there are
abbrev class_count : (ℕ → ℕ → ℕ → Bool) → ℕ → ℕ → ℕ
class_count R n i = count_below n (is_least R i)

more_classes : (R : ℕ → ℕ → ℕ → Bool) → Levels R → (i n : ℕ) → Parted R i n → class_count R n i < class_count R n (suc i)
more_classes R l i n p = count_strict n (is_least R i) (is_least R (suc i)) (λ k h. stays_least R l i k) p.first p.below p.old p.new

abbrev is_split : (ℕ → ℕ → ℕ → Bool) → ℕ → ℕ → ℕ → Bool
is_split R i u v = R i u v && not (R (suc i) u v)

-- a level is the next one, or a class of it is split
next_or_split : (R : ℕ → ℕ → ℕ → Bool) → Levels R → (n i : ℕ) → IsNext R n i ⊎ Parted R i n
next_or_split R l n i = elim (cases_Bool (any_below n (λ u. any_below n (is_split R i u)))) [
  | inl some ↦ inr (
      let u = any_get n (λ u. any_below n (is_split R i u)) some in
      let v = any_get n (is_split R i u.0) u.2 in
      let e = and_parts (R i u.0 v.0) (not (R (suc i) u.0 v.0)) v.2 in
      splits R l i u.0 v.0 n u.1 v.1 e.0 (not-true (R (suc i) u.0 v.0) e.1))
  | inr none ↦ inl (λ u v hu hv e. elim (cases_Bool (R (suc i) u v)) [
    | inl t ↦ t
    | inr f ↦ absurd (
        let z = none_get n (is_split R i u) (none_get n (λ u. any_below n (is_split R i u)) none u hu) v hv in
        both_ways (is_split R i u v) z (and_from (R i u v) (not (R (suc i) u v)) e (not_from_false (R (suc i) u v) f)))
  ])
]

-- some level before is the next one, or this one has at least as many classes as its number
next_or_many : (R : ℕ → ℕ → ℕ → Bool) → Levels R → (n i : ℕ) → ((j : ℕ) × (j < i) × IsNext R n j) ⊎ (i ≤ class_count R n i)
next_or_many R l n zero = inr (omega arith)
next_or_many R l n (suc i) = elim (next_or_many R l n i) [
  | inl (j, below, same) ↦ inl (j, omega arith, same)
  | inr many ↦ elim (next_or_split R l n i) [
    | inl same ↦ inl (i, omega arith, same)
    | inr p ↦ inr (let more = more_classes R l i n p in omega (arith, many, more))
  ]
]

-- no level has more classes than there are numbers that it relates to themselves
few_classes : (R : ℕ → ℕ → ℕ → Bool) → Levels R → (n i : ℕ) → class_count R n i ≤ count_below n (λ m. R 0 m m)
few_classes R l n i =
    count_mono n (is_least R i) (λ m. R 0 m m) (λ k h e. sym (l.self i k) ∙ (and_parts (R i k k) (not (any_below k (λ m. R i m k))) e).0)

pub steady : (R : ℕ → ℕ → ℕ → Bool) → Levels R → (n : ℕ) → (j : ℕ) × (j ≤ count_below n (λ m. R 0 m m)) × IsNext R n j
steady R l n = elim (next_or_many R l n (count_below n (λ m. R 0 m m) + 1)) [
  | inl (j, below, same) ↦ (j, omega (arith, below), same)
  | inr many ↦ absurd (let f = few_classes R l n (count_below n (λ m. R 0 m m) + 1) in omega (arith, f, many))
]
