-- Keys by number.
use Rattle.std.specs.Prelude.{◌≡◌, ℕ, ◌⊎◌, List, [], ◌∷◌, ◌++◌, length, slice_get, Some}

-- no number has this key
abbrev pub IsAbsent : List (List ℕ) → List ℕ → Type 0
IsAbsent keys key = (i : ℕ) → slice_get keys i ≡ Some key → ⊥

-- no two numbers have one key
pub record AreDistinct (keys : List (List ℕ)) : Type 0 where
  -- numbers of equal keys are equal
  pub apart : (i j : ℕ) (key : List ℕ) → slice_get keys i ≡ Some key → slice_get keys j ≡ Some key → i ≡ j

-- the number is that of the key among the old keys, which stay; or the key was absent, and is put behind them
abbrev pub Interns : List (List ℕ) → List (List ℕ) → List ℕ → ℕ → Type 0
Interns old new key i = ((slice_get old i ≡ Some key) × (new ≡ old)) ⊎ (IsAbsent old key × (i ≡ length old) × (new ≡ old ++ key ∷ []))
