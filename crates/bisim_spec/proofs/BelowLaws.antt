-- Tests over the numbers below a bound.
use Rattle.std.proofs.Common.{◌≡◌, ℕ, zero, suc, ◌<◌, ◌≤◌, refl, sym, ◌∙◌, ap, arith, inl, inr, true, false, Bool, cond, true≢false}
use Rattle.std.proofs.lemmas.Bool.{cases_lt, cases_Bool, or_cases, or_parts, or_left, or_right, and_parts, and_from}
use Rattle.bisim_spec.specs.Below.{any_below, all_below, count_below}

-- a number below the next bound is below this one, or it
pub below_suc : (P : ℕ → Type 0) (n k : ℕ) → k < suc n → P n → (k < n → P k) → P k
below_suc P n k h here before = elim (cases_lt k n) [
  | inl below ↦ before below
  | inr past ↦ (let e : k ≡ n = omega (arith, h) in rw e here)
]

-- a number that passes, where some does
pub any_get : (n : ℕ) (p : ℕ → Bool) → any_below n p ≡ true → (k : ℕ) × (k < n) × (p k ≡ true)
any_get zero p h = absurd (true≢false (sym h))
any_get (suc n) p h = elim (or_cases (p n) (any_below n p) h) [
  | inl e ↦ (n, omega arith, e)
  | inr t ↦ let r = any_get n p t in (r.0, (let l = r.1 in omega arith), r.2)
]

pub any_from : (n : ℕ) (p : ℕ → Bool) (k : ℕ) → k < n → p k ≡ true → any_below n p ≡ true
any_from zero p k l e = absurd (omega (arith, l))
any_from (suc n) p k l e = elim (cases_lt k n) [
  | inl below ↦ or_right (p n) (any_below n p) (any_from n p k below e)
  | inr past ↦ (let same : n ≡ k = omega (arith, l) in or_left (p n) (any_below n p) (ap p same ∙ e))
]

-- no number passes, where none does
pub none_get : (n : ℕ) (p : ℕ → Bool) → any_below n p ≡ false → (k : ℕ) → k < n → p k ≡ false
none_get zero p h k l = absurd (omega (arith, l))
none_get (suc n) p h k l =
    let f = or_parts (p n) (any_below n p) h in
    below_suc (λ m. p m ≡ false) n k l f.0 (none_get n p f.1 k)

pub all_get : (n : ℕ) (p : ℕ → Bool) → all_below n p ≡ true → (k : ℕ) → k < n → p k ≡ true
all_get zero p h k l = absurd (omega (arith, l))
all_get (suc n) p h k l =
    let a = and_parts (p n) (all_below n p) h in
    below_suc (λ m. p m ≡ true) n k l a.0 (all_get n p a.1 k)

pub all_from : (n : ℕ) (p : ℕ → Bool) → ((k : ℕ) → k < n → p k ≡ true) → all_below n p ≡ true
all_from zero p h = refl
all_from (suc n) p h = and_from (p n) (all_below n p) (h n (omega arith)) (all_from n p (λ k l. h k (omega (arith, l))))

-- the least number that passes
pub least : (n : ℕ) (p : ℕ → Bool) → any_below n p ≡ true → (w : ℕ) × (w < n) × (p w ≡ true) × (any_below w p ≡ false)
least zero p h = absurd (true≢false (sym h))
least (suc n) p h = elim (cases_Bool (any_below n p)) [
  | inl some ↦ (let r = least n p some in (r.0, (let l = r.1 in omega arith), r.2, r.3))
  | inr none ↦ elim (or_cases (p n) (any_below n p) h) [
    | inl e ↦ (n, omega arith, e, none)
    | inr t ↦ absurd (true≢false (sym t ∙ none))
  ]
]

abbrev pub bit_of : Bool → ℕ
bit_of b = cond b 1 0

bit_le : (a b : Bool) → (a ≡ true → b ≡ true) → bit_of a ≤ bit_of b
bit_le true b h = rw (h refl) (omega arith)
bit_le false b h = omega arith

-- tests of which the one passes where the other does count no more
pub count_mono : (n : ℕ) (p q : ℕ → Bool) → ((k : ℕ) → k < n → p k ≡ true → q k ≡ true) → count_below n p ≤ count_below n q
count_mono zero p q h = omega arith
count_mono (suc n) p q h =
    let a = bit_le (p n) (q n) (h n (omega arith)) in
    let b = count_mono n p q (λ k l. h k (omega (arith, l))) in
    omega (arith, a, b)

-- and fewer, where some number passes the other alone
pub count_strict : (n : ℕ) (p q : ℕ → Bool) → ((k : ℕ) → k < n → p k ≡ true → q k ≡ true) → (x : ℕ) → x < n → p x ≡ false → q x ≡ true
    → count_below n p < count_below n q
count_strict zero p q h x l a b = absurd (omega (arith, l))
count_strict (suc n) p q h x l a b = elim (cases_lt x n) [
  | inl below ↦
      (let c = bit_le (p n) (q n) (h n (omega arith)) in
      let d = count_strict n p q (λ k m. h k (omega (arith, m))) x below a b in
      omega (arith, c, d))
  | inr past ↦
      (let same : n ≡ x = omega (arith, l) in
      let pn : bit_of (p n) ≡ 0 = ap bit_of (ap p same ∙ a) in
      let qn : bit_of (q n) ≡ 1 = ap bit_of (ap q same ∙ b) in
      let d = count_mono n p q (λ k m. h k (omega (arith, m))) in
      omega (arith, pn, qn, d))
]

-- tests that agree below the bound count the same
pub count_same : (n : ℕ) (p q : ℕ → Bool) → ((k : ℕ) → k < n → p k ≡ q k) → count_below n p ≡ count_below n q
count_same zero p q h = refl
count_same (suc n) p q h =
    let a : bit_of (p n) ≡ bit_of (q n) = ap bit_of (h n (omega arith)) in
    let b = count_same n p q (λ k l. h k (omega (arith, l))) in
    omega (arith, a, b)

pub count_few : (n : ℕ) (p : ℕ → Bool) → count_below n p ≤ n
count_few zero p = omega arith
count_few (suc n) p =
    let a = bit_le (p n) true (λ e. refl) in
    let b = count_few n p in
    omega (arith, a, b)
