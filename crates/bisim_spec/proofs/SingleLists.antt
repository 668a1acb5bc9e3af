-- A list of one number.
use Rattle.std.proofs.Common.{◌≡◌, ℕ, [], ◌∷◌, IsTrue, sym, ◌∙◌, inl, inr, true≢false}
use Rattle.std.specs.Prelude.{nat_eq}
use Rattle.std.specs.List.{IsDistinct}
use Rattle.std.proofs.Math.Bool.{or-false}
use Rattle.std.proofs.lemmas.Bool.Decides.{eqb_tells}
use Rattle.graph_spec.specs.Members.{has}

-- it is there once
pub one_once : (t : ℕ) → IsDistinct nat_eq (t ∷ [])
unfolding IsDistinct
one_once t = (tt, tt)

-- and no other is
pub only_one : (t n : ℕ) → IsTrue (has (t ∷ []) n) → n ≡ t
only_one t n h = elim (eqb_tells n t) [ inl s ↦ s.1 | inr k ↦ absurd (true≢false (sym h ∙ or-false (nat_eq n t) ∙ k.0)) ]
