-- Places in the list of all indexes.
use Rattle.std.proofs.Common.{◌≡◌, ℕ, zero, suc, ◌+◌, ◌*◌, ◌<◌, ◌≤◌, List, [], ◌∷◌, ◌++◌, Some, None, slice_get, sym, ◌∙◌, ap, append_assoc, append-nil, arith, inl, inr}
use Rattle.std.proofs.lemmas.Bool.{cases_lt}
use Rattle.index_api.specs.declared.kinds.Via.{Via}
use Rattle.index_api.specs.declared.kinds.Via.TheVariants.{A, One, Fb, B}
use Rattle.index_api.specs.IndexOrder.{levels_below, all_indexes}

module _ (at_level : ℕ → Via) where
  one_more : (m : ℕ) (rest : List Via) → levels_below at_level (suc m) ++ rest ≡ levels_below at_level m ++ (at_level m ∷ rest)
  one_more m rest = append_assoc (levels_below at_level m) (at_level m ∷ []) rest

  -- what stands behind the levels
  past : (m j n : ℕ) (rest : List Via) → n ≡ m + j → slice_get (levels_below at_level m ++ rest) n ≡ slice_get rest j
  past zero j n rest e = ap (slice_get rest) (let same : n ≡ j = omega (arith, e) in same)
  past (suc m) j n rest e = ap (λ xs. slice_get xs n) (one_more m rest) ∙ past m (suc j) n (at_level m ∷ rest) (omega (arith, e))

  among : (m n : ℕ) (rest : List Via) → n < m → slice_get (levels_below at_level m ++ rest) n ≡ Some (at_level n)
  among zero n rest h = absurd (omega (arith, h))
  among (suc m) n rest h =
      ap (λ xs. slice_get xs n) (one_more m rest)
      ∙ elim (cases_lt n m) [
        | inl below ↦ among m n (at_level m ∷ rest) below
        | inr above ↦ let same : n ≡ m = omega (arith, h, above) in past m 0 n (at_level m ∷ rest) (omega (arith, same)) ∙ ap (λ i. Some (at_level i)) (sym same)
      ]

  -- where nothing stands behind them
  alone : (m : ℕ) → levels_below at_level m ≡ levels_below at_level m ++ []
  alone m = sym (append-nil (levels_below at_level m))

  pub level_at : (m n : ℕ) → n < m → slice_get (levels_below at_level m) n ≡ Some (at_level n)
  level_at m n h = ap (λ xs. slice_get xs n) (alone m) ∙ among m n [] h

  pub no_level : (m j n : ℕ) → n ≡ m + j → slice_get (levels_below at_level m) n ≡ None
  no_level m j n e = ap (λ xs. slice_get xs n) (alone m) ∙ past m j n [] e

-- what stands behind the A-indexes
abbrev behind : ℕ → List Via
behind k = One ∷ Fb ∷ levels_below B (suc k)

pub level_stands : (k n : ℕ) → n ≤ k → slice_get (all_indexes k) n ≡ Some (A n)
level_stands k n h = among A (suc k) n (behind k) (omega (arith, h))

pub one_stands : (k n : ℕ) → n ≡ k + 1 → slice_get (all_indexes k) n ≡ Some One
one_stands k n e = past A (suc k) 0 n (behind k) (omega (arith, e))

pub fb_stands : (k n : ℕ) → n ≡ k + 2 → slice_get (all_indexes k) n ≡ Some Fb
fb_stands k n e = past A (suc k) 1 n (behind k) (omega (arith, e))

pub bounded_stands : (k i n : ℕ) → n ≡ k + 3 + i → i ≤ k → slice_get (all_indexes k) n ≡ Some (B i)
bounded_stands k i n e h = past A (suc k) (suc (suc i)) n (behind k) (omega (arith, e)) ∙ level_at B (suc k) i (omega (arith, h))

pub nothing_past : (k j n : ℕ) → n ≡ 2 * k + 4 + j → slice_get (all_indexes k) n ≡ None
nothing_past k j n e = past A (suc k) (suc (suc (suc k + j))) n (behind k) (omega (arith, e)) ∙ no_level B (suc k) j (suc k + j) (omega arith)
