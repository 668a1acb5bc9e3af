-- States that lead on are there, and so are places.
use Rattle.std.proofs.Common.{◌≡◌, ℕ, inl, inr, Bool, refl, sym, ap, ◌∙◌, cond, Option, Some, None, IsTrue}
use Rattle.std.specs.Prelude.{is_some, IsSome}
use Rattle.std.proofs.lemmas.Bool.{ne_eqb, cases_eq}
use Rattle.path_automaton.specs.declared.state.State.{State}
use Rattle.path_automaton.specs.declared.state.State.TheVariants.{End, Stuck, Any, Label, Fork}
use Rattle.path_automaton.specs.ProductSteps.{leads}
use Rattle.path_automaton.specs.NewMarks.{Enters, IsPlace}
use Rattle.walk_spec.specs.Ways.{Takes}
use Rattle.state_sets.specs.StateSets.{ForkedTo, here, onward}

enters_some : (o : Option State) (k : ℕ) → Enters o k → IsSome o
enters_some None k h = absurd h
enters_some (Some x) k h = refl

pub takes_some : (label_at : ℕ → Option ℕ) (o : Option State) (x k : ℕ) → Takes label_at o x k → IsSome o
takes_some label_at None x k h = absurd h
takes_some label_at (Some s) x k h = refl

pub forked_some : (at : ℕ → Option State) (s k : ℕ) → ForkedTo at s k → IsSome (at k) → IsSome (at s)
forked_some at s k here h = h
forked_some at s k (onward r k1 f e) h = forked_some at s r f (enters_some (at r) k1 e)

pub led_from : (size : ℕ) (label_at : ℕ → Option ℕ) (edge : ℕ → ℕ → Bool) → ((u v : ℕ) → IsTrue (edge u v) → IsSome (label_at u) × IsSome (label_at v))
    → (c x : ℕ) → IsTrue (leads size label_at edge c x) → IsPlace size label_at c
led_from size label_at edge ends c x h = elim (cases_eq c size) [
  | inl same ↦ inl same
  | inr other ↦ inr (ends c x (sym (ap (λ t. cond t (is_some (label_at x)) (edge c x)) (ne_eqb c size other)) ∙ h)).0
]

-- the state that a label leads to depends on that label alone
pub takes_by : (label_at : ℕ → Option ℕ) (o : Option State) (l n k : ℕ) → label_at n ≡ Some l → Takes (λ m. Some l) o 0 k → Takes label_at o n k
takes_by label_at None l n k e h = absurd h
takes_by label_at (Some End) l n k e h = absurd h
takes_by label_at (Some Stuck) l n k e h = absurd h
takes_by label_at (Some (Any next)) l n k e h = h
takes_by label_at (Some (Label m next)) l n k e h = (h.0, e ∙ h.1)
takes_by label_at (Some (Fork a b)) l n k e h = absurd h

pub takes_as : (label_at : ℕ → Option ℕ) (o : Option State) (l n k : ℕ) → label_at n ≡ Some l → Takes label_at o n k → Takes (λ m. Some l) o 0 k
takes_as label_at None l n k e h = absurd h
takes_as label_at (Some End) l n k e h = absurd h
takes_as label_at (Some Stuck) l n k e h = absurd h
takes_as label_at (Some (Any next)) l n k e h = h
takes_as label_at (Some (Label m next)) l n k e h = (h.0, sym e ∙ h.1)
takes_as label_at (Some (Fork a b)) l n k e h = absurd h
