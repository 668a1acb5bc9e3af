-- Edges that a change takes away from nodes that stay.
use Rattle.std.specs.Prelude.{ℕ, ◌&&◌, not, Bool, length}
use Rattle.graph_spec.specs.Graphs.{Graph, has_edge}
use Rattle.bisim_spec.specs.Below.{count_below}

-- the edge is in the graph before, and not in that after
abbrev pub is_lost : Graph → Graph → ℕ → ℕ → Bool
is_lost g g2 p n = has_edge g p n && not (has_edge g2 p n)

-- how many edges to the node are taken away
abbrev pub lost_onto : Graph → Graph → ℕ → ℕ
lost_onto g g2 n = count_below (length g.allocated) (λ p. is_lost g g2 p n)

-- how many edges from the node are taken away
abbrev pub lost_from : Graph → Graph → ℕ → ℕ
lost_from g g2 n = count_below (length g.allocated) (λ c. is_lost g g2 n c)
