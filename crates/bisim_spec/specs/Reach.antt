-- What walks lead to.
use Rattle.std.specs.Prelude.{ℕ, zero, suc, ◌≤◌, ◌&&◌, ◌||◌, Bool, List, length}
use Rattle.graph_spec.specs.Shapes.{Shape}
use Rattle.graph_spec.specs.Walks.{Leads}
use Rattle.bisim_spec.specs.Below.{any_below}

-- No walk of two nodes or more leads from a node to itself.
pub record Acyclic (s : Shape) : Type 0 where
  -- the word of each walk from a node to itself has at most one label
  pub alone : (u : ℕ) (word : List (List ℕ)) → Leads s u word u → length word ≤ 1

-- The starting numbers, and the nodes to which at most so many edges lead from them. A starting number counts even where
-- it is no node.
abbrev pub within_distance : Shape → (ℕ → Bool) → ℕ → ℕ → Bool
within_distance s from zero n = from n
within_distance s from (suc j) n = within_distance s from j n || any_below s.size (λ p. within_distance s from j p && s.edge p n)

-- the same for any number of edges: more edges than numbers lead nowhere else
abbrev pub reach : Shape → (ℕ → Bool) → ℕ → Bool
reach s from n = within_distance s from s.size n

-- the shape with each edge taken both ways
abbrev pub either_way : Shape → Shape
either_way s = record { size = s.size; label = s.label; edge = λ p n. s.edge p n || s.edge n p }

-- the starting numbers, and the nodes that at most so many edges, each taken in either direction, join to them
abbrev pub ball : Shape → (ℕ → Bool) → ℕ → ℕ → Bool
ball s from j n = within_distance (either_way s) from j n
