-- The neighbours on one side of a node.
use Rattle.std.specs.Prelude.{ℕ, Bool}
use Rattle.bisim_spec.specs.declared.sides.Side.{Side}
use Rattle.bisim_spec.specs.declared.sides.Side.TheVariants.{Parents, Children}

-- whether p is a neighbour of n on this side
abbrev pub is_neighbour : Side → (ℕ → ℕ → Bool) → ℕ → ℕ → Bool
is_neighbour Parents edge p n = edge p n
is_neighbour Children edge p n = edge n p
