-- What a step of a load says of its outcome.
use Rattle.std.specs.Prelude.{◌≡◌, Result, Err}
use Rattle.graph_spec.specs.declared.refusal.Refusal.{Refusal}

-- some refusal came
abbrev pub IsRefused : {T : Type 0} → Result T Refusal → Type 0
IsRefused x = (r : Refusal) × (x ≡ Err r)
