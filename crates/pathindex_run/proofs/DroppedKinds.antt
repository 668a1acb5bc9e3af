-- An engine from which each kind is left out has no index.
use Rattle.std.proofs.Common.{◌≡◌, List, [], ◌∷◌, refl, true}
use Rattle.bisim_spec.specs.declared.kind.Kind.{Kind}
use Rattle.bisim_spec.specs.declared.kind.Kind.TheVariants as kind
use Rattle.script_interpreter.specs.States.{left_out}

pub none_left : (kinds : List Kind) → left_out true kind.B (left_out true kind.Fb (left_out true kind.One (left_out true kind.A kinds))) ≡ []
none_left [] = refl
none_left (kind.A ∷ kinds) = none_left kinds
none_left (kind.One ∷ kinds) = none_left kinds
none_left (kind.Fb ∷ kinds) = none_left kinds
none_left (kind.B ∷ kinds) = none_left kinds
