-- What it costs to read the neighbours of a node in the graph after a change.
use Rattle.std.specs.Prelude.{ℕ}
use Rattle.change_spec.specs.Bounds as bound
use Rattle.graph_update.specs.PendingChanges.{Pending, graph_after}

-- a step, one for each parent, and one for each parent that the change takes away
abbrev pub parents_cost : Pending → ℕ → ℕ
parents_cost a n = bound.parents_cost a.before (graph_after a) n

-- the same for the children
abbrev pub children_cost : Pending → ℕ → ℕ
children_cost a n = bound.children_cost a.before (graph_after a) n
