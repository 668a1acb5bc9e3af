-- A list of one step is applied as the step is.
use Rattle.std.proofs.Common.{◌≡◌, [], ◌∷◌, Ok, Err, refl}
use Rattle.std.specs.Prelude.{Result}
use Rattle.graph_spec.specs.declared.limits.Limits.{Limits}
use Rattle.graph_spec.specs.declared.refusal.Refusal.{Refusal}
use Rattle.graph_spec.specs.Graphs.{Graph}
use Rattle.change_spec.specs.Steps.{Step, and_then, apply_step, apply}

-- the last step stands alone
alone : (r : Result Graph Refusal) → and_then r (λ h. Ok h) ≡ r
alone (Ok g) = refl
alone (Err r) = refl

pub one_step : (s : Step) (g : Graph) (limits : Limits) → apply (s ∷ []) g limits ≡ apply_step s g limits
one_step s g limits = alone (apply_step s g limits)
