-- What rounds over a set of nodes may read.
use Rattle.std.specs.Prelude.{ℕ, ◌+◌, ◌*◌}
use Rattle.graph_spec.specs.Graphs.{Graph}
use Rattle.graph_spec.specs.Shapes.{shape_of}
use Rattle.bisim_spec.specs.Weights.{parent_count, child_count}
use Rattle.change_spec.specs.Lost.{lost_onto, lost_from}

-- a step, one for each parent in the graph after, and one for each that the change takes away
abbrev pub parents_cost : Graph → Graph → ℕ → ℕ
parents_cost g g2 n = 1 + parent_count (shape_of g2) n + lost_onto g g2 n

-- a step, one for each child in the graph after, and one for each that the change takes away
abbrev pub children_cost : Graph → Graph → ℕ → ℕ
children_cost g g2 n = 1 + child_count (shape_of g2) n + lost_from g g2 n

-- a node is examined and moved: its parents are read twice, and its children once
abbrev pub round_cost : Graph → Graph → ℕ → ℕ
round_cost g g2 n = 2 * parents_cost g g2 n + children_cost g g2 n
