-- What an index file holds: a graph, and partitions of its nodes.
use Rattle.std.specs.Prelude.{ℕ, List, [], ◌∷◌, Option, None, Some}
use Rattle.std.specs.FinSet as set
use Rattle.graph_spec.specs.Graphs.{Graph, Edges}
use Rattle.graph_spec.specs.Changes.{with_label}
use Rattle.index_api.specs.declared.kinds.Via.{Via}

-- a partition, and the index of which it is
pub record SavedView : Type 0 where
  -- the index
  pub via : Via
  -- at each number the rank of that node's block; none where the node is gone
  pub block_of : List (Option ℕ)

-- what an index file holds
pub record SavedFile : Type 0 where
  -- the graph of the file
  pub graph : Graph
  -- the highest level of the families
  pub k : ℕ
  -- the partitions, in the order of the file
  pub views : List SavedView

-- the labels that were seen, and then those of the live nodes that weren't, each once, in the order of their first nodes
abbrev pub seen_after : List (List ℕ) → List (Option (List ℕ)) → List (List ℕ)
seen_after seen [] = seen
seen_after seen (None ∷ allocated) = seen_after seen allocated
seen_after seen (Some t ∷ allocated) = seen_after (with_label seen t) allocated

-- the labels of live nodes, each once, in the order of their first nodes
abbrev pub seen_of : List (Option (List ℕ)) → List (List ℕ)
seen_of allocated = seen_after [] allocated

-- the set of these edges
abbrev pub edges_of : List (ℕ × ℕ) → Edges
edges_of [] = set.empty
edges_of (e ∷ es) = set.insert (edges_of es) e

-- the graph with these numbers allocated and these edges
abbrev pub graph_of : List (Option (List ℕ)) → List (ℕ × ℕ) → Graph
graph_of allocated edges = record { allocated = allocated; edges = edges_of edges; seen = seen_of allocated }

-- the ranks, one to each live node
abbrev pub ranks_at : List (Option (List ℕ)) → List ℕ → List (Option ℕ)
ranks_at [] ranks = []
ranks_at (None ∷ allocated) ranks = None ∷ ranks_at allocated ranks
ranks_at (Some t ∷ allocated) [] = None ∷ ranks_at allocated []
ranks_at (Some t ∷ allocated) (r ∷ ranks) = Some r ∷ ranks_at allocated ranks
