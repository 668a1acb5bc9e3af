-- A list that is searched piece by piece.
use Rattle.std.proofs.Common.{◌≡◌, ℕ, zero, suc, ◌+◌, ◌-◌, ◌≤◌, ◌||◌, not, cond, Bool, true, false, List, [], ◌∷◌, length, take, drop, None, Some, refl, ap, sym, ◌∙◌, subst, arith, nat_eq, length-drop}
use Rattle.std.specs.Prelude.{position}
use Rattle.std.proofs.lemmas.List.{take_all}
use Rattle.std.specs.List.{prefix_len}
use Rattle.graph_spec.specs.Members.{has}
use Rattle.graph_spec.proofs.ListLemmas.{found, is_found}
use Rattle.cell_lists.proofs.Positions.{missing, is_missing}

neither : (a b : Bool) → (a || b) ≡ false → (a ≡ false) × (b ≡ false)
neither true b h = elim (subst (λ t. elim t as (λ _. Type 0) [ true ↦ Unit {0} | false ↦ ⊥ ]) h tt) [ ]
neither false b h = (refl, h)

-- two pieces that follow one another lack the number
pub has-further : (n f m g : ℕ) (xs : List ℕ) → g ≡ f + m → has (take f xs) n ≡ false → has (take m (drop f xs)) n ≡ false → has (take g xs) n ≡ false
has-further n zero m g xs e h k = subst (λ i. has (take i xs) n ≡ false) (omega arith) k
has-further n (suc f) m zero xs e h k = refl
has-further n (suc f) m (suc g) [] e h k = refl
has-further n (suc f) m (suc g) (x ∷ xs) e h k =
    let both = neither (nat_eq n x) (has (take f xs) n) h in
    ap (λ b. b || has (take g xs) n) both.0 ∙ has-further n f m g xs (omega arith) both.1 k

before : (n f : ℕ) (xs : List ℕ) → f ≤ length xs → has (take f xs) n ≡ false
    → prefix_len (λ x. not (nat_eq n x)) xs ≡ f + prefix_len (λ x. not (nat_eq n x)) (drop f xs)
before n zero xs h lacks = omega arith
before n (suc f) [] h lacks = absurd (omega arith)
before n (suc f) (x ∷ xs) h lacks =
    let both = neither (nat_eq n x) (has (take f xs) n) lacks in
    ap (λ b. cond (not b) (1 + prefix_len (λ y. not (nat_eq n y)) xs) 0) both.0 ∙ (let next = before n f xs (omega arith) both.1 in omega arith)

module _ (n f : ℕ) (xs : List ℕ) (within : f ≤ length xs) (lacks : has (take f xs) n ≡ false) where
  behind-is : take (length xs - f) (drop f xs) ≡ drop f xs
  behind-is = take_all (length xs - f) (drop f xs) (omega (arith, length-drop f xs))

  -- the first place behind a front that lacks the number is the first of all
  pub position-behind : (i : ℕ) → position (nat_eq n) (take (length xs - f) (drop f xs)) ≡ Some i → Some (f + i) ≡ position (nat_eq n) xs
  position-behind i e =
      let at = found (prefix_len (λ x. not (nat_eq n x)) (drop f xs)) (length (drop f xs)) i (rw behind-is at e) in
      sym (is_found _ _ (f + i) (omega (arith, at.0, before n f xs within lacks, length-drop f xs)) (omega (arith, at.1, before n f xs within lacks)))

  pub position-nowhere : position (nat_eq n) (take (length xs - f) (drop f xs)) ≡ None → None ≡ position (nat_eq n) xs
  position-nowhere e =
      sym (is_missing _ _ (omega (arith, missing (prefix_len (λ x. not (nat_eq n x)) (drop f xs)) (length (drop f xs)) (rw behind-is at e), before n f xs within lacks, length-drop f xs)))
