-- Nodes at which no edge begins or ends, by the lists of neighbours.
use Rattle.std.proofs.Common.{◌≡◌, ℕ, true, false, List, [], ◌∷◌, length, refl, sym, ap, ◌∙◌, true≢false, arith}
use Rattle.std.specs.Prelude.{◌||◌, ◌==◌}
use Rattle.std.proofs.lemmas.Bool.{eqb-true}
use Rattle.std.proofs.lemmas.Cmp.{nat_eq_equiv}
use Rattle.graph_spec.specs.Graphs.{Graph, has_edge}
use Rattle.graph_spec.specs.Changes.{is_used}
use Rattle.graph_spec.specs.Members.{has, Lists}
use Rattle.graph_spec.proofs.Uses.{bare_unused, unused_bare}

none : (xs : List ℕ) → ((m : ℕ) → has xs m ≡ false) → xs ≡ []
none [] h = refl
none (x ∷ xs) h = absurd (true≢false (sym (ap (λ b. b || has xs x) (nat_eq_equiv.refl x)) ∙ h x))

no-numbers : (xs : List ℕ) → (length xs == 0) ≡ true → xs ≡ []
no-numbers [] h = refl
no-numbers (x ∷ xs) h = absurd (omega (arith, eqb-true (length (x ∷ xs)) 0 h))

-- the same by the lists of neighbours
module _ (g : Graph) (u : ℕ) (below : List ℕ) (children : Lists (has_edge g u) below) where
  pub unused-below : is_used g u ≡ false → (length below == 0) ≡ true
  unused-below h = ap (λ l. length l == 0) (none below (λ w. children.members w ∙ (unused_bare g u h).from w))

  module _ (above : List ℕ) (parents : Lists (λ w. has_edge g w u) above) where
    pub unused-above : is_used g u ≡ false → (length above == 0) ≡ true
    unused-above h = ap (λ l. length l == 0) (none above (λ w. parents.members w ∙ (unused_bare g u h).onto w))

    pub empty-unused : (length below == 0) ≡ true → (length above == 0) ≡ true → is_used g u ≡ false
    empty-unused b a = bare_unused g u (record {
      from = λ w. sym (children.members w) ∙ ap (λ l. has l w) (no-numbers below b);
      onto = λ w. sym (parents.members w) ∙ ap (λ l. has l w) (no-numbers above a);
    })
