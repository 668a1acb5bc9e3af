-- What it costs to read the neighbours of a node in the graph after a change.
use Rattle.std.specs.Prelude.{ℕ, ◌+◌}
use Rattle.bisim_spec.specs.declared.sides.Sides.{Sides}
use Rattle.bisim_spec.specs.declared.sides.Sides.TheVariants as sides
use Rattle.change_spec.specs.Bounds as bound
use Rattle.graph_update.specs.PendingChanges.{Pending, graph_after}

-- a step, one for each child, and one for each child to which the change takes the edge away
abbrev pub children_cost : Pending → ℕ → ℕ
children_cost a n = bound.children_cost a.before (graph_after a) n

-- the same for the parents
abbrev pub parents_cost : Pending → ℕ → ℕ
parents_cost a n = bound.parents_cost a.before (graph_after a) n

-- for the nodes whose next level a node can change: its children and, where both sides count, its parents
abbrev pub spread_cost : Sides → Pending → ℕ → ℕ
spread_cost sides.Parents a = children_cost a
spread_cost sides.Both a = λ n. children_cost a n + parents_cost a n

-- how many sides count
abbrev pub side_count : Sides → ℕ
side_count sides.Parents = 1
side_count sides.Both = 2
