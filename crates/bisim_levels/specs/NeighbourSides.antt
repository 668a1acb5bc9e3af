-- The neighbours on one side of a node.
use Rattle.std.specs.Prelude.{ℕ, Bool, false}
use Rattle.graph_spec.specs.Graphs.{Graph, has_edge}
use Rattle.bisim_spec.specs.declared.sides.Side.{Side}
use Rattle.bisim_spec.specs.declared.sides.Side.TheVariants.{Parents, Children}

-- whether p is a neighbour of n on this side
abbrev pub is_neighbour : Side → Graph → ℕ → ℕ → Bool
is_neighbour Parents g = has_edge g
is_neighbour Children g = λ p n. has_edge g n p

-- no node is a neighbour
abbrev pub no_neighbours : ℕ → ℕ → Bool
no_neighbours p n = false
