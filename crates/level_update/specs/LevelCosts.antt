-- What it costs to place nodes.
use Rattle.std.specs.Prelude.{ℕ, ◌+◌, ◌*◌, Bool}
use Rattle.graph_spec.specs.Shapes.{shape_of}
use Rattle.bisim_spec.specs.declared.sides.Sides.{Sides}
use Rattle.bisim_spec.specs.declared.sides.Sides.TheVariants as sides
use Rattle.bisim_spec.specs.SidedLevels.{affected}
use Rattle.change_spec.specs.Costs.{cost}
use Rattle.graph_update.specs.PendingChanges.{Pending, graph_after}
use Rattle.quotient_moves.specs.NeighbourCosts.{parents_cost, children_cost}
use Rattle.affected_nodes.specs.ReadCosts.{side_count}

-- the neighbours of a node on the sides that count are read for its key
abbrev pub key_cost : Sides → Pending → ℕ → ℕ
key_cost sides.Parents a = parents_cost a
key_cost sides.Both a = λ n. parents_cost a n + children_cost a n

-- its parents and its children are read for its move
abbrev pub move_cost : Pending → ℕ → ℕ
move_cost a n = parents_cost a n + children_cost a n

-- a node is placed by its key
abbrev pub place_cost : Sides → Pending → ℕ → ℕ
place_cost sides a n = key_cost sides a n + move_cost a n

-- for each side that counts, what the change costs at the nodes within so many edges of its ends
abbrev pub affected_cost : Sides → Pending → (ℕ → Bool) → ℕ → ℕ
affected_cost sides a ends k = side_count sides * cost a.change a.before (affected sides (shape_of (graph_after a)) ends k)

-- The most steps that the affected nodes take at all levels up to k: as many as the change costs at those within k
-- edges, to find them, and three times as many at each level but the lowest.
abbrev pub most_move_steps : Sides → Pending → (ℕ → Bool) → ℕ → ℕ
most_move_steps sides a ends k = (3 * k + 1) * affected_cost sides a ends k

-- The nodes that get another label take three times as many more at each level.
abbrev pub most_draft_steps : Sides → Pending → (ℕ → Bool) → ℕ → ℕ
most_draft_steps sides a ends k = (6 * k + 4) * affected_cost sides a ends k
