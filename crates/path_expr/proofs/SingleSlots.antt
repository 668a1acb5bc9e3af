-- A list of one place.
use Rattle.std.proofs.Common.{◌≡◌, ◌||◌, ℕ, [], ◌∷◌, Bool, true, false, sym, ap, ◌∙◌, eqb, IsTrue}
use Rattle.std.proofs.lemmas.Bool.{eq-eqb, eqb-true}
use Rattle.graph_spec.specs.Members.{has}

pub one_there : (n m : ℕ) → m ≡ n → IsTrue (has (m ∷ []) n)
one_there n m e = ap (λ b. b || false) (eq-eqb n m (sym e))

left_true : (b : Bool) → (b || false) ≡ true → b ≡ true
left_true true h = h
left_true false h = h

pub one_only : (n m v : ℕ) → m ≡ n → IsTrue (has (m ∷ []) v) → v ≡ n
one_only n m v e h = eqb-true v m (left_true (eqb v m) h) ∙ e
