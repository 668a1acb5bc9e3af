-- The first steps of a change, one more at a time.
use Rattle.std.proofs.Common.{◌≡◌, ℕ, zero, suc, ◌+◌, ◌<◌, ◌≤◌, List, [], ◌∷◌, ◌++◌, length, refl, sym, ap, ◌∙◌, subst, arith, take, get_or}
use Rattle.std.specs.Prelude.{slice_get, Some}
use Rattle.std.proofs.lemmas.List.{take_more, map-append}
use Rattle.graph_spec.specs.Graphs.{Graph}
use Rattle.change_spec.specs.Steps.{made, after}
use Rattle.change_spec.specs.Places.{CanMake, CanMakeAll}
use Rattle.change_spec.proofs.Prefixes.{after_more}
use Rattle.change_spec.proofs.StepPlaces.{can_more}
use Rattle.graph_steps.specs.declared.changes.Step.{Step as Asked}
use Rattle.graph_steps.specs.StepLists.{step_of, steps_of}

-- the first steps with one more
pub more_at : (ss : List Asked) (i : ℕ) (s : Asked) → i < length ss → s ≡ get_or ss i s → steps_of (take (i + 1) ss) ≡ steps_of (take i ss) ++ step_of s ∷ []
more_at ss i s h e =
    ap steps_of (take_more ss i s h) ∙ map-append step_of (take i ss) (get_or ss i s ∷ []) ∙ ap (λ x. steps_of (take i ss) ++ step_of x ∷ []) (sym e)

pub after_at : (ss : List Asked) (i : ℕ) (s : Asked) (g : Graph) → i < length ss → s ≡ get_or ss i s → after (steps_of (take (i + 1) ss)) g ≡ made (step_of s) (after (steps_of (take i ss)) g)
after_at ss i s g h e = ap (λ c. after c g) (more_at ss i s h e) ∙ after_more (steps_of (take i ss)) (step_of s) g

-- each step can be made at its place
pub can_at : (ss : List Asked) (i : ℕ) (s : Asked) (g : Graph) → i < length ss → s ≡ get_or ss i s → CanMakeAll (steps_of ss) g → CanMake (step_of s) (after (steps_of (take i ss)) g)
can_at [] i s g h e can = absurd (omega (arith, h))
can_at (x ∷ xs) zero s g h e can = subst (λ y. CanMake (step_of y) g) (sym e) can.0
can_at (x ∷ xs) (suc i) s g h e can = can_at xs i s (made (step_of x) g) (omega (arith, h)) e can.1

pub can_next : (ss : List Asked) (i : ℕ) (s : Asked) (g : Graph) → i < length ss → s ≡ get_or ss i s → CanMakeAll (steps_of (take i ss)) g
    → CanMake (step_of s) (after (steps_of (take i ss)) g) → CanMakeAll (steps_of (take (i + 1) ss)) g
can_next ss i s g h e can one = subst (λ c. CanMakeAll c g) (sym (more_at ss i s h e)) (can_more (steps_of (take i ss)) (step_of s) g can one)

-- the first steps can be made where all can
pub can_prefix : (ss : List Asked) (i : ℕ) (g : Graph) → CanMakeAll (steps_of ss) g → CanMakeAll (steps_of (take i ss)) g
can_prefix [] zero g can = tt
can_prefix [] (suc i) g can = tt
can_prefix (x ∷ xs) zero g can = tt
can_prefix (x ∷ xs) (suc i) g can = (can.0, can_prefix xs i (made (step_of x) g) can.1)

pub all_taken : (ss : List Asked) (i : ℕ) → length ss ≤ i → take i ss ≡ ss
all_taken [] zero h = refl
all_taken [] (suc i) h = refl
all_taken (x ∷ xs) zero h = absurd (omega (arith, h))
all_taken (x ∷ xs) (suc i) h = ap (λ ys. x ∷ ys) (all_taken xs i (omega (arith, h)))

-- what stands at a place
pub some_at : (ss : List Asked) (i : ℕ) → i < length ss → (s : Asked) × (slice_get ss i ≡ Some s) × (s ≡ get_or ss i s)
some_at [] i h = absurd (omega (arith, h))
some_at (x ∷ xs) zero h = (x, refl, refl)
some_at (x ∷ xs) (suc i) h = some_at xs i (omega (arith, h))

pub the_one_at : (ss : List Asked) (i : ℕ) (x s : Asked) → x ≡ get_or ss i x → slice_get ss i ≡ Some s → x ≡ s
the_one_at [] zero x s e at = cc
the_one_at [] (suc i) x s e at = cc
the_one_at (y ∷ ys) zero x s e at = (let same : y ≡ s = cc in e ∙ same)
the_one_at (y ∷ ys) (suc i) x s e at = the_one_at ys i x s e at
