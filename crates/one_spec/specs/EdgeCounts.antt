-- Supports that are right.
use Rattle.std.specs.Prelude.{◌≡◌, ℕ, List, Option}
use Rattle.graph_spec.specs.Graphs.{Graph}
use Rattle.bisim_spec.specs.Supports.{edges_between}

-- the supports are the numbers of edges of the graph between the blocks
pub record AreEdgeCounts (g : Graph) (block : List (Option ℕ)) (support : ℕ → ℕ → ℕ) : Type 0 where
  -- the support of a pair is the number of edges from the one block to the other
  pub each : (x y : ℕ) → support x y ≡ edges_between g.edges block x y
