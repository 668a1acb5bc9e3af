-- Edges between blocks, and how many there are (support counts: K. Yi, H. He, I. Stanoi and J. Yang, SIGMOD 2004).
use Rattle.std.specs.Prelude.{ℕ, ◌≡◌, ◌&&◌, Bool, List, Option, Some, count_by}
use Rattle.std.specs.FinSet as set
use Rattle.graph_spec.specs.Graphs.{Edges}
use Rattle.graph_spec.specs.Shapes.{Shape, IsParent}
use Rattle.graph_spec.specs.Members.{at, is_this}

-- some edge leads from a member of a to a member of b
abbrev pub Adjacent : Shape → List (Option ℕ) → ℕ → ℕ → Type 0
Adjacent s block a b = (u : ℕ) × (v : ℕ) × IsParent s u v × (at block u ≡ Some a) × (at block v ≡ Some b)

-- whether the edge leads from a member of a to a member of b
abbrev pub joins : List (Option ℕ) → ℕ → ℕ → ℕ × ℕ → Bool
joins block a b e = is_this a (at block e.0) && is_this b (at block e.1)

-- how many edges of a list lead from a member of a to a member of b
abbrev pub support : List (ℕ × ℕ) → List (Option ℕ) → ℕ → ℕ → ℕ
support edges block a b = count_by (joins block a b) edges

-- how many edges of a set lead from a member of a to a member of b
abbrev pub edges_between : Edges → List (Option ℕ) → ℕ → ℕ → ℕ
edges_between edges block a b = set.len (set.retain edges (joins block a b))
