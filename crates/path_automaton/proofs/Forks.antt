-- What a fork enters.
use Rattle.std.proofs.Common.{◌≡◌, ℕ, ◌⊎◌, inl, inr, List, Bool, Option, Some, refl, sym, subst}
use Rattle.path_automaton.specs.declared.state.State.{State}
use Rattle.path_automaton.specs.declared.state.State.TheVariants.{Fork}
use Rattle.path_automaton.specs.ProductSteps.{Succeeds}
use Rattle.path_automaton.specs.NewMarks.{Enters, EntersAt, IsEntered, MarksOne}

module _ (at : ℕ → Option State) (size : ℕ) (label_at : ℕ → Option ℕ) (edge : ℕ → ℕ → Bool) (state a b : ℕ) (places : List ℕ) (is : at state ≡ Some (Fork a b)) where
  one_of : (k s c : ℕ) → ((k ≡ a) ⊎ (k ≡ b)) → EntersAt at size label_at edge k places s c → MarksOne at size label_at edge state places s c
  one_of k s c of (inl e) = inl (c, e.1, subst (λ o. Succeeds size label_at edge o c s c) (sym is) (subst (λ x. (x ≡ a) ⊎ (x ≡ b)) (sym e.0) of, refl))
  one_of k s c of (inr t) = inr (k, subst (λ o. Enters o k) (sym is) of, t)

  pub fork_marks : (s c : ℕ) → EntersAt at size label_at edge a places s c ⊎ EntersAt at size label_at edge b places s c → MarksOne at size label_at edge state places s c
  fork_marks s c (inl h) = one_of a s c (inl refl) h
  fork_marks s c (inr h) = one_of b s c (inr refl) h

  pub fork_entered : (marks : List (List Bool)) → IsEntered at size label_at edge a places marks → IsEntered at size label_at edge b places marks
      → (k : ℕ) → Enters (at state) k → IsEntered at size label_at edge k places marks
  fork_entered marks first second k enters = elim (subst (λ o. Enters o k) is enters) [
    | inl e ↦ subst (λ x. IsEntered at size label_at edge x places marks) (sym e) first
    | inr e ↦ subst (λ x. IsEntered at size label_at edge x places marks) (sym e) second
  ]
