-- Edges by the side of a node, or of a block, on which its neighbour lies.
use Rattle.std.specs.Prelude.{ℕ}
use Rattle.bisim_spec.specs.declared.sides.Side.{Side}
use Rattle.bisim_spec.specs.declared.sides.Side.TheVariants.{Parents, Children}

-- the edge between m, which is a neighbour on this side, and n
abbrev pub edge_with : Side → ℕ → ℕ → ℕ × ℕ
edge_with Parents m n = (m, n)
edge_with Children m n = (n, m)
