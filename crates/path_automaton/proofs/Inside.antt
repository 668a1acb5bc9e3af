-- States that lead to states of their list.
use Rattle.std.proofs.Common.{◌≡◌, ℕ, zero, suc, ◌+◌, ◌<◌, ◌≤◌, ◌⊎◌, inl, inr, List, [], ◌∷◌, ◌++◌, length, refl, sym, ap, subst, arith, Some, set, length-set}
use Rattle.std.specs.Prelude.{slice_get}
use Rattle.std.proofs.lemmas.Option.{same_Some}
use Rattle.std.proofs.lemmas.List.{length_push}
use Rattle.path_automaton.specs.declared.state.State.{State}
use Rattle.path_automaton.specs.declared.state.State.TheVariants.{End, Stuck, Any, Label, Fork}
use Rattle.path_automaton.specs.Programs.{LeadsInside, AreInside}

pub inside_more : (s : State) (n m : ℕ) → n ≤ m → LeadsInside n s → LeadsInside m s
inside_more End n m l h = tt
inside_more Stuck n m l h = tt
inside_more (Any next) n m l h = omega arith
inside_more (Label k next) n m l h = omega arith
inside_more (Fork a b) n m l (ha, hb) = (omega arith, omega arith)

pub push_cases : (xs : List State) (y : State) (k : ℕ) (s : State) → slice_get (xs ++ y ∷ []) k ≡ Some s → (slice_get xs k ≡ Some s) ⊎ (s ≡ y)
push_cases [] y zero s e = inr (sym (same_Some y s e))
push_cases [] y (suc k) s e = cc
push_cases (x ∷ xs) y zero s e = inl e
push_cases (x ∷ xs) y (suc k) s e = push_cases xs y k s e

pub set_cases : (xs : List State) (i : ℕ) (y : State) (k : ℕ) (s : State) → slice_get (set xs i y) k ≡ Some s → (slice_get xs k ≡ Some s) ⊎ (s ≡ y)
set_cases [] i y k s e = cc
set_cases (x ∷ xs) zero y zero s e = inr (sym (same_Some y s e))
set_cases (x ∷ xs) zero y (suc k) s e = inl e
set_cases (x ∷ xs) (suc i) y zero s e = inl e
set_cases (x ∷ xs) (suc i) y (suc k) s e = set_cases xs i y k s e

pub inside_push : (xs : List State) (y : State) → AreInside xs → LeadsInside (length xs + 1) y → AreInside (xs ++ y ∷ [])
inside_push xs y all h k s e =
    let len = length_push xs y in
    elim (push_cases xs y k s e) [
      | inl old ↦ inside_more s (length xs) (length (xs ++ y ∷ [])) (omega (arith, len)) (all k s old)
      | inr new ↦ subst (λ n. LeadsInside n s) (sym len) (subst (λ x. LeadsInside (length xs + 1) x) (sym new) h)
    ]

pub inside_set : (xs : List State) (i : ℕ) (y : State) → AreInside xs → LeadsInside (length xs) y → AreInside (set xs i y)
inside_set xs i y all h k s e =
    subst (λ n. LeadsInside n s) (sym (length-set xs i y))
    (elim (set_cases xs i y k s e) [
      | inl old ↦ all k s old
      | inr new ↦ subst (λ x. LeadsInside (length xs) x) (sym new) h
    ])

pub inside_end : AreInside (End ∷ [])
inside_end zero s e = subst (λ x. LeadsInside 1 x) (same_Some End s e) tt
inside_end (suc k) s e = cc

-- what stands where
pub get_push : (xs : List State) (y : State) (k : ℕ) (s : State) → slice_get xs k ≡ Some s → slice_get (xs ++ y ∷ []) k ≡ Some s
get_push [] y k s e = cc
get_push (x ∷ xs) y zero s e = e
get_push (x ∷ xs) y (suc k) s e = get_push xs y k s e

pub get_last : (xs : List State) (y : State) → slice_get (xs ++ y ∷ []) (length xs) ≡ Some y
get_last [] y = refl
get_last (x ∷ xs) y = get_last xs y

pub get_set : (xs : List State) (i : ℕ) (y : State) → i < length xs → slice_get (set xs i y) i ≡ Some y
get_set [] i y h = absurd (omega arith)
get_set (x ∷ xs) zero y h = refl
get_set (x ∷ xs) (suc i) y h = get_set xs i y (omega arith)

pub get_set_other : (xs : List State) (i : ℕ) (y : State) (k : ℕ) → (k ≡ i → ⊥) → slice_get (set xs i y) k ≡ slice_get xs k
get_set_other [] i y k h = refl
get_set_other (x ∷ xs) zero y zero h = absurd (h refl)
get_set_other (x ∷ xs) zero y (suc k) h = refl
get_set_other (x ∷ xs) (suc i) y zero h = refl
get_set_other (x ∷ xs) (suc i) y (suc k) h = get_set_other xs i y k (λ e. h (ap suc e))
