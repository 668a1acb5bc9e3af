-- What a list of neighbours says of all of them.
use Rattle.std.proofs.Common.{◌≡◌, ℕ, List, [], ◌∷◌, Bool, true, false, refl, sym, subst, inl, inr}
use Rattle.std.specs.Prelude.{nat_eq}
use Rattle.std.specs.List.{list_all, list_any}
use Rattle.std.proofs.lemmas.Bool.{and_parts, and_from, or_cases, or_left, or_right, both_ways}
use Rattle.std.proofs.lemmas.Bool.Decides.{Decides-eqb}
use Rattle.graph_spec.specs.Members.{has}

pub all_get : (p : ℕ → Bool) (xs : List ℕ) (n : ℕ) → list_all p xs ≡ true → has xs n ≡ true → p n ≡ true
all_get p [] n h e = absurd (both_ways false refl e)
all_get p (x ∷ xs) n h e =
    let a = and_parts (p x) (list_all p xs) h in
    elim (or_cases (nat_eq n x) (has xs n) e) [
      | inl same ↦ subst (λ y. p y ≡ true) (sym ((Decides-eqb n x).0 same)) a.0
      | inr rest ↦ all_get p xs n a.1 rest
    ]

pub all_from : (p : ℕ → Bool) (xs : List ℕ) → ((n : ℕ) → has xs n ≡ true → p n ≡ true) → list_all p xs ≡ true
all_from p [] h = refl
all_from p (x ∷ xs) h =
    and_from (p x) (list_all p xs) (h x (or_left (nat_eq x x) (has xs x) ((Decides-eqb x x).1 refl)))
    (all_from p xs (λ n e. h n (or_right (nat_eq n x) (has xs n) e)))

pub any_get : (p : ℕ → Bool) (xs : List ℕ) → list_any p xs ≡ true → (n : ℕ) × (has xs n ≡ true) × (p n ≡ true)
any_get p [] h = absurd (both_ways false refl h)
any_get p (x ∷ xs) h = elim (or_cases (p x) (list_any p xs) h) [
  | inl here ↦ (x, or_left (nat_eq x x) (has xs x) ((Decides-eqb x x).1 refl), here)
  | inr rest ↦ (let n = any_get p xs rest in (n.0, or_right (nat_eq n.0 x) (has xs n.0) n.1, n.2))
]

pub any_from : (p : ℕ → Bool) (xs : List ℕ) (n : ℕ) → has xs n ≡ true → p n ≡ true → list_any p xs ≡ true
any_from p [] n e h = absurd (both_ways false refl e)
any_from p (x ∷ xs) n e h = elim (or_cases (nat_eq n x) (has xs n) e) [
  | inl same ↦ or_left (p x) (list_any p xs) (subst (λ y. p y ≡ true) ((Decides-eqb n x).0 same) h)
  | inr rest ↦ or_right (p x) (list_any p xs) (any_from p xs n rest h)
]
