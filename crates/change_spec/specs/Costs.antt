-- How much a change makes there to read.
use Rattle.std.specs.Prelude.{ℕ, ◌+◌, ◌&&◌, not, Bool, List, length}
use Rattle.graph_spec.specs.Graphs.{Graph, is_live}
use Rattle.graph_spec.specs.Shapes.{shape_of}
use Rattle.bisim_spec.specs.Weights.{weight}
use Rattle.change_spec.specs.Steps.{Step, after}

-- live before, and gone after
abbrev pub is_gone : Graph → Graph → ℕ → Bool
is_gone g g2 n = is_live g n && not (is_live g2 n)

-- The weight of the nodes of a set in the graph after the change, one for each step, and the weight in the graph before of each
-- node that goes.
abbrev pub cost : List Step → Graph → (ℕ → Bool) → ℕ
cost c g set = weight (shape_of (after c g)) set + length c + weight (shape_of g) (is_gone g (after c g))
