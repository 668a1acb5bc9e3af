-- Tests over the numbers below a bound that rises from one member of a set to the next.
use Rattle.std.proofs.Common.{◌≡◌, ◌≢◌, ℕ, ◌+◌, ◌≤◌, Bool, true, false, ◌&&◌, ◌||◌, List, refl, sym, ap, ◌∙◌, arith, inl, inr, lt-ltb}
use Rattle.std.specs.Prelude.{nat_eq, nat_lt}
use Rattle.std.proofs.lemmas.Bool.{cases_lt}
use Rattle.std.proofs.lemmas.Bool.Decides.{eqb_tells, nat_tests}
use Rattle.graph_spec.specs.Members.{has}
use Rattle.px_base.specs.BitSets.{IsNext}

not_below : (x n : ℕ) → n ≤ x → nat_lt x n ≡ false
not_below x n h = grind (arith, nat_tests)

nothing_and : (a b : Bool) → b ≡ false → (a && b) ≡ false
nothing_and true b h = h
nothing_and false b h = refl

-- the members of the set that pass and are below a number
abbrev pub is_kept : List ℕ → (ℕ → Bool) → ℕ → ℕ → Bool
is_kept set other from m = nat_lt m from && (has set m && other m)

pub kept_none : (set : List ℕ) (other : ℕ → Bool) (m : ℕ) → is_kept set other 0 m ≡ false
kept_none set other m = ap (λ t. t && (has set m && other m)) (not_below m 0 (omega arith))

pub kept_step : (set : List ℕ) (other : ℕ → Bool) (from n : ℕ) → IsNext set from n → (m : ℕ) → ((nat_eq m n && other n) || is_kept set other from m) ≡ is_kept set other (n + 1) m
kept_step set other from n next m = elim (eqb_tells m n) [
  | inl same ↦
      (let e : m ≡ n = same.1 in
      let le = next.from in
      let old : is_kept set other from m ≡ false = ap (λ t. t && (has set m && other m)) (not_below m from (omega (arith, e, le))) in
      let member : has set m ≡ true = ap (has set) e ∙ next.member in
      let new : is_kept set other (n + 1) m ≡ other n =
      ap (λ t. t && (has set m && other m)) (lt-ltb m (n + 1) (omega (arith, e))) ∙ ap (λ t. t && other m) member ∙ ap other e in
      ap (λ t. (t && other n) || is_kept set other from m) same.0 ∙ ap (λ t. other n || t) old ∙ or_none (other n) ∙ sym new)
  | inr apart ↦ (let ne : m ≢ n = apart.1 in ap (λ t. (t && other n) || is_kept set other from m) apart.0 ∙ sided ne)
]
  where
    or_none : (b : Bool) → (b || false) ≡ b
    or_none true = refl
    or_none false = refl

    sided : m ≢ n → is_kept set other from m ≡ is_kept set other (n + 1) m
    sided ne = elim (cases_lt m from) [
      | inl l ↦ (let le = next.from in ap (λ t. t && (has set m && other m)) (lt-ltb m from l ∙ sym (lt-ltb m (n + 1) (omega (arith, le)))))
      | inr past ↦ elim (cases_lt m (n + 1)) [
        | inl l ↦
            (let none : (has set m && other m) ≡ false = ap (λ t. t && other m) (next.first m past (omega (arith, ne, l))) in
            nothing_and (nat_lt m from) (has set m && other m) none ∙ sym (nothing_and (nat_lt m (n + 1)) (has set m && other m) none))
        | inr above ↦ ap (λ t. t && (has set m && other m)) (not_below m from past ∙ sym (not_below m (n + 1) above))
      ]
    ]

pub kept_end : (set : List ℕ) (other : ℕ → Bool) (from : ℕ) → ((m : ℕ) → from ≤ m → has set m ≡ false) → (m : ℕ) → is_kept set other from m ≡ (has set m && other m)
kept_end set other from none m = elim (cases_lt m from) [
  | inl l ↦ ap (λ t. t && (has set m && other m)) (lt-ltb m from l)
  | inr past ↦
      (let nothing : (has set m && other m) ≡ false = ap (λ t. t && other m) (none m past) in
      nothing_and (nat_lt m from) (has set m && other m) nothing ∙ sym nothing)
]
