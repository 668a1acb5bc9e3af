-- Which numbers a list has.
use Rattle.std.proofs.Common.{◌≡◌, ℕ, ◌+◌, ◌<◌, ◌⊎◌, List, [], ◌∷◌, ◌++◌, length, refl, ◌∙◌, ap, inl, inr, true, false, Bool, take, get_or}
use Rattle.std.specs.Prelude.{◌||◌, nat_eq}
use Rattle.std.proofs.lemmas.Bool.{or_cases, or_left, or_right}
use Rattle.std.proofs.lemmas.Bool.Decides.{Decides-eqb}
use Rattle.std.proofs.lemmas.List.Folds.{list_any-append, list_any_more, list_any_at}
use Rattle.graph_spec.specs.Members.{has}

pub or_false : (b : Bool) → (b || false) ≡ b
or_false true = refl
or_false false = refl

-- the first, or one behind it
pub has_cases : (y : ℕ) (ys : List ℕ) (n : ℕ) → has (y ∷ ys) n ≡ true → (n ≡ y) ⊎ (has ys n ≡ true)
has_cases y ys n h = elim (or_cases (nat_eq n y) (has ys n) h) [ inl e ↦ inl ((Decides-eqb n y).0 e) | inr t ↦ inr t ]

pub has_head : (y : ℕ) (ys : List ℕ) → has (y ∷ ys) y ≡ true
has_head y ys = or_left (nat_eq y y) (has ys y) ((Decides-eqb y y).1 refl)

pub has_tail : (y : ℕ) (ys : List ℕ) (n : ℕ) → has ys n ≡ true → has (y ∷ ys) n ≡ true
has_tail y ys n h = or_right (nat_eq n y) (has ys n) h

-- what stands at a place
pub has_at : (xs : List ℕ) (i d : ℕ) → i < length xs → has xs (get_or xs i d) ≡ true
has_at xs i d h = list_any_at (nat_eq (get_or xs i d)) xs i d h ((Decides-eqb (get_or xs i d) (get_or xs i d)).1 refl)

-- one more number, behind the others
pub has_push : (xs : List ℕ) (x n : ℕ) → has (xs ++ x ∷ []) n ≡ (has xs n || nat_eq n x)
has_push xs x n = list_any-append (nat_eq n) xs (x ∷ []) ∙ ap (λ b. has xs n || b) (or_false (nat_eq n x))

pub has_more : (xs : List ℕ) (i d n : ℕ) → i < length xs → has (take (i + 1) xs) n ≡ (has (take i xs) n || nat_eq n (get_or xs i d))
has_more xs i d n h = list_any_more (nat_eq n) xs i d h
