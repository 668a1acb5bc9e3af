-- The least number of a kind, where one number more may be of it.
use Rattle.std.proofs.Common.{◌≡◌, refl, ℕ, zero, suc, ◌≤◌, ◌⊎◌, inl, inr, List, [], ◌∷◌, length, take, sym, ap, subst, arith, Option, Some, None, IfSome}
use Rattle.walk_proof.specs.Layering.{IsLeastOf}

module _ (P Q : ℕ → Type 0) (on : (c : ℕ) → P c → Q c) where
  pub least_still : (best : Option ℕ) → ((c : ℕ) → Q c → P c) → IsLeastOf P best → IsLeastOf Q best
  least_still None back l = λ c h. l c (back c h)
  least_still (Some m) back l = (on m l.0, λ c h. l.1 c (back c h))

  pub least_more : (n : ℕ) (best : Option ℕ) (new : ℕ) → ((c : ℕ) → Q c → P c ⊎ (c ≡ n)) → Q n → new ≤ n → IfSome best (λ m. new ≤ m) → ((new ≡ n) ⊎ (best ≡ Some new)) → IsLeastOf P best
      → IsLeastOf Q (Some new)
  least_more n None new back q le bound one l =
      let same : new ≡ n = elim one [ inl e ↦ e | inr e ↦ cc ] in
      (subst Q (sym same) q, λ c h. elim (back c h) [ inl p ↦ absurd (l c p) | inr e ↦ omega (arith, le, e) ])
  least_more n (Some m) new back q le bound one l = (
    elim one [ inl e ↦ subst Q (sym e) q | inr e ↦ (let same : m ≡ new = cc in subst Q same (on m l.0)) ],
    λ c h. elim (back c h) [ inl p ↦ (let d = l.1 c p in omega (arith, d, bound)) | inr e ↦ omega (arith, le, e) ],
  )

pub all_taken : (xs : List ℕ) (i : ℕ) → length xs ≤ i → take i xs ≡ xs
all_taken [] zero h = refl
all_taken [] (suc i) h = refl
all_taken (x ∷ xs) zero h = absurd (omega arith)
all_taken (x ∷ xs) (suc i) h = ap (λ l. x ∷ l) (all_taken xs i (omega arith))
