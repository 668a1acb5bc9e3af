-- Tests of the code's steps, and of the list that they stand for.
use Rattle.std.proofs.Common.{◌≡◌, ℕ, List, [], ◌∷◌, refl, ap}
use Rattle.std.specs.Prelude.{◌||◌}
use Rattle.std.specs.List.{list_any}
use Rattle.change_spec.specs.Named.{names, is_named, takes_away, is_dropped}
use Rattle.graph_steps.specs.declared.changes.Step.{Step as Asked}
use Rattle.graph_steps.specs.StepLists.{step_of, steps_of}

pub dropped_map : (ss : List Asked) (n : ℕ) → list_any (λ s. takes_away (step_of s) n) ss ≡ is_dropped (steps_of ss) n
dropped_map [] n = refl
dropped_map (s ∷ ss) n = ap (λ b. takes_away (step_of s) n || b) (dropped_map ss n)

pub named_map : (ss : List Asked) (n : ℕ) → list_any (λ s. names n (step_of s)) ss ≡ is_named (steps_of ss) n
named_map [] n = refl
named_map (s ∷ ss) n = ap (λ b. names n (step_of s) || b) (named_map ss n)
