-- Which numbers a list has.
use Rattle.std.proofs.Common.{◌≡◌, ℕ, zero, suc, ◌+◌, ◌<◌, ◌≤◌, ◌⊎◌, inl, inr, false, List, [], ◌∷◌, ◌++◌, length, take, drop, get_or, refl, sym, ◌∙◌, subst, arith, eqb, IsTrue, true≢false}
use Rattle.std.specs.Prelude.{◌&&◌, not, nat_eq}
use Rattle.std.proofs.lemmas.Bool.{or_cases, or_left, or_right, eqb-true, eq-eqb, and_parts, not-true, false_from_ne_true}
use Rattle.std.proofs.lemmas.List.{drop_more, drop_all}
use Rattle.graph_spec.specs.Members.{has}

pub none_there : (s : ℕ) → IsTrue (has [] s) → ⊥
none_there s h = true≢false (sym h)

pub has_left : (xs ys : List ℕ) (s : ℕ) → IsTrue (has xs s) → IsTrue (has (xs ++ ys) s)
has_left [] ys s h = absurd (true≢false (sym h))
has_left (x ∷ xs) ys s h = elim (or_cases (eqb s x) (has xs s) h) [
  | inl here ↦ or_left (eqb s x) (has (xs ++ ys) s) here
  | inr more ↦ or_right (eqb s x) (has (xs ++ ys) s) (has_left xs ys s more)
]

pub has_right : (xs ys : List ℕ) (s : ℕ) → IsTrue (has ys s) → IsTrue (has (xs ++ ys) s)
has_right [] ys s h = h
has_right (x ∷ xs) ys s h = or_right (eqb s x) (has (xs ++ ys) s) (has_right xs ys s h)

pub has_cases : (xs ys : List ℕ) (s : ℕ) → IsTrue (has (xs ++ ys) s) → IsTrue (has xs s) ⊎ IsTrue (has ys s)
has_cases [] ys s h = inr h
has_cases (x ∷ xs) ys s h = elim (or_cases (eqb s x) (has (xs ++ ys) s) h) [
  | inl here ↦ inl (or_left (eqb s x) (has xs s) here)
  | inr more ↦ (elim (has_cases xs ys s more) [ inl a ↦ inl (or_right (eqb s x) (has xs s) a) | inr b ↦ inr b ])
]

pub has_one : (x s : ℕ) → s ≡ x → IsTrue (has (x ∷ []) s)
has_one x s e = or_left (eqb s x) false (eq-eqb s x e)

pub one_has : (x s : ℕ) → IsTrue (has (x ∷ []) s) → s ≡ x
one_has x s h = elim (or_cases (eqb s x) false h) [ inl here ↦ eqb-true s x here | inr more ↦ absurd (true≢false (sym more)) ]

pub has_at : (xs : List ℕ) (i : ℕ) → i < length xs → IsTrue (has xs (get_or xs i 0))
has_at [] i h = absurd (omega arith)
has_at (x ∷ xs) zero h = or_left (eqb x x) (has xs x) (eq-eqb x x refl)
has_at (x ∷ xs) (suc i) h = or_right (eqb (get_or xs i 0) x) (has xs (get_or xs i 0)) (has_at xs i (omega arith))

pub place_of : (xs : List ℕ) (s : ℕ) → IsTrue (has xs s) → (i : ℕ) × (i < length xs) × (get_or xs i 0 ≡ s)
place_of [] s h = absurd (true≢false (sym h))
place_of (x ∷ xs) s h = elim (or_cases (eqb s x) (has xs s) h) [
  | inl here ↦ (0, omega arith, sym (eqb-true s x here))
  | inr more ↦ (let p = place_of xs s more in let b = p.1 in (suc p.0, omega (arith, b), p.2))
]

pub get_prefix : (xs ys : List ℕ) (i : ℕ) → i < length xs → get_or (xs ++ ys) i 0 ≡ get_or xs i 0
get_prefix [] ys i h = absurd (omega arith)
get_prefix (x ∷ xs) ys zero h = refl
get_prefix (x ∷ xs) ys (suc i) h = get_prefix xs ys i (omega arith)

-- of one more
pub take_cases : (xs : List ℕ) (i : ℕ) → i < length xs → (s : ℕ) → IsTrue (has (take (i + 1) xs) s) → IsTrue (has (take i xs) s) ⊎ (s ≡ get_or xs i 0)
take_cases xs i h s k = by xs i h (subst (λ n. IsTrue (has (take n xs) s)) (one i) k)
  where
    one : (i : ℕ) → i + 1 ≡ suc i
    one i = omega arith

    by : (xs : List ℕ) (i : ℕ) → i < length xs → IsTrue (has (take (suc i) xs) s) → IsTrue (has (take i xs) s) ⊎ (s ≡ get_or xs i 0)
    by [] i h k = absurd (omega arith)
    by (x ∷ xs) zero h k = elim (or_cases (eqb s x) false k) [ inl here ↦ inr (eqb-true s x here) | inr more ↦ absurd (true≢false (sym more)) ]
    by (x ∷ xs) (suc i) h k = elim (or_cases (eqb s x) (has (take (suc i) xs) s) k) [
      | inl here ↦ inl (or_left (eqb s x) (has (take i xs) s) here)
      | inr more ↦ (elim (by xs i (omega arith) more) [ inl a ↦ inl (or_right (eqb s x) (has (take i xs) s) a) | inr e ↦ inr e ])
    ]

pub take_has : (xs : List ℕ) (i s : ℕ) → IsTrue (has (take i xs) s) → IsTrue (has xs s)
take_has [] zero s h = h
take_has [] (suc i) s h = h
take_has (x ∷ xs) zero s h = absurd (true≢false (sym h))
take_has (x ∷ xs) (suc i) s h = elim (or_cases (eqb s x) (has (take i xs) s) h) [
  | inl here ↦ or_left (eqb s x) (has xs s) here
  | inr more ↦ or_right (eqb s x) (has xs s) (take_has xs i s more)
]

pub take_grows : (xs : List ℕ) (i s : ℕ) → IsTrue (has (take i xs) s) → IsTrue (has (take (i + 1) xs) s)
take_grows xs i s h = subst (λ n. IsTrue (has (take n xs) s)) (one i) (by xs i h)
  where
    one : (i : ℕ) → suc i ≡ i + 1
    one i = omega arith

    by : (xs : List ℕ) (i : ℕ) → IsTrue (has (take i xs) s) → IsTrue (has (take (suc i) xs) s)
    by [] zero h = h
    by [] (suc i) h = h
    by (x ∷ xs) zero h = absurd (true≢false (sym h))
    by (x ∷ xs) (suc i) h = elim (or_cases (eqb s x) (has (take i xs) s) h) [
      | inl here ↦ or_left (eqb s x) (has (take (suc i) xs) s) here
      | inr more ↦ or_right (eqb s x) (has (take (suc i) xs) s) (by xs i more)
    ]

pub take_last : (xs : List ℕ) (i : ℕ) → i < length xs → IsTrue (has (take (i + 1) xs) (get_or xs i 0))
take_last xs i h = subst (λ n. IsTrue (has (take n xs) (get_or xs i 0))) (one i) (by xs i h)
  where
    one : (i : ℕ) → suc i ≡ i + 1
    one i = omega arith

    by : (xs : List ℕ) (i : ℕ) → i < length xs → IsTrue (has (take (suc i) xs) (get_or xs i 0))
    by [] i h = absurd (omega arith)
    by (x ∷ xs) zero h = or_left (eqb x x) false (eq-eqb x x refl)
    by (x ∷ xs) (suc i) h = or_right (eqb (get_or xs i 0) x) (has (take (suc i) xs) (get_or xs i 0)) (by xs i (omega arith))

-- what is left to be removed, once the number at the place is
pub left_after : (xs members members2 : List ℕ) (i : ℕ) → i < length xs → ((s : ℕ) → IsTrue (has members s) → IsTrue (has (drop i xs) s))
    → ((m : ℕ) → has members2 m ≡ (not (nat_eq m (get_or xs i 0)) && has members m)) → (s : ℕ) → IsTrue (has members2 s) → IsTrue (has (drop (i + 1) xs) s)
left_after xs members members2 i within left removed s h =
    let k = and_parts (not (nat_eq s (get_or xs i 0))) (has members s) (sym (removed s) ∙ h) in
    let split : IsTrue (has (get_or xs i 0 ∷ drop (i + 1) xs) s) = subst (λ l. IsTrue (has l s)) (drop_more xs i 0 within) (left s k.1) in
    elim (or_cases (eqb s (get_or xs i 0)) (has (drop (i + 1) xs) s) split) [
      | inl same ↦ absurd (true≢false (sym same ∙ not-true (nat_eq s (get_or xs i 0)) k.0))
      | inr more ↦ more
    ]

-- nothing is left to be removed
pub none_left : (xs members : List ℕ) (i : ℕ) → length xs ≤ i → ((s : ℕ) → IsTrue (has members s) → IsTrue (has (drop i xs) s)) → (s : ℕ) → has members s ≡ false
none_left xs members i past left s = false_from_ne_true (has members s) (λ h. none_there s (subst (λ l. IsTrue (has l s)) (drop_all i xs past) (left s h)))
