-- What is added to a graph and taken from it, one node or edge at a time, and what fits its limits.
use Rattle.std.specs.Prelude.{ℕ, ◌||◌, ◌&&◌, Bool, List, [], ◌∷◌, ◌++◌, length, if◌then◌else◌, nat_lt, nat_eq, slice_set, Some, None}
use Rattle.std.specs.List.{list_any}
use Rattle.std.specs.FinSet as set
use Rattle.graph_spec.specs.declared.limits.Limits.{Limits}
use Rattle.graph_spec.specs.Graphs.{Graph, has_edge, is_seen}

-- the labels that were seen, with t behind them where it is new
abbrev pub with_label : List (List ℕ) → List ℕ → List (List ℕ)
with_label seen t = if is_seen seen t then seen else seen ++ t ∷ []

-- the graph with one more node: the next number, live with that label
abbrev pub with_node : Graph → List ℕ → Graph
with_node g t = record g { allocated = g.allocated ++ Some t ∷ []; seen = with_label g.seen t }

-- the graph with an edge from u to v
abbrev pub with_edge : Graph → ℕ → ℕ → Graph
with_edge g u v = record g { edges = set.insert g.edges (u, v) }

-- the graph with no edge from u to v
abbrev pub without_edge : Graph → ℕ → ℕ → Graph
without_edge g u v = record g { edges = set.remove g.edges (u, v) }

-- the graph in which u is no longer live; its number stays allocated, and the edges stay as they are
abbrev pub without_node : Graph → ℕ → Graph
without_node g u = record g { allocated = slice_set g.allocated u None }

-- an edge begins or ends at the node, its own loop included
abbrev pub is_used : Graph → ℕ → Bool
is_used g u = list_any (λ e. nat_eq e.0 u || nat_eq e.1 u) (set.items g.edges)

-- one more number, and the label where it is new, are within the limits
abbrev pub node_fits : Graph → Limits → List ℕ → Bool
node_fits g limits t = nat_lt (length g.allocated) limits.nodes && (is_seen g.seen t || nat_lt (length g.seen) limits.labels)

-- the edge is there, or one more is within the limit
abbrev pub edge_fits : Graph → Limits → ℕ → ℕ → Bool
edge_fits g limits u v = has_edge g u v || nat_lt (set.len g.edges) limits.edges
