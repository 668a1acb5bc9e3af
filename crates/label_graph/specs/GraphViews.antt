-- A graph whose labels are numbers of its table.
use Rattle.std.specs.Prelude.{ℕ, Bool, ◌&&◌, length, Option, option_and_then, is_some, position, bytes_eq}
use Rattle.std.specs.List.{count_by}
use Rattle.std.specs.FinSet as set
use Rattle.graph_spec.specs.Graphs.{Graph, label_of, has_edge}
use Rattle.graph_spec.specs.Shapes.{Shape, shape_by}

-- the number of a node's label, and none where the number isn't live
abbrev pub label_number : Graph → ℕ → Option ℕ
label_number g n = option_and_then (λ t. position (bytes_eq t) g.seen) (label_of g n)

-- whether an edge leads from the first node to the second, both of them live with labels that were seen
abbrev pub is_linked : Graph → ℕ → ℕ → Bool
is_linked g u v = has_edge g u v && (is_some (label_number g u) && is_some (label_number g v))

-- the graph as the numbers of its labels show it
abbrev pub numbered_shape : Graph → Shape
numbered_shape g = shape_by g.seen (length g.allocated) (label_number g) (is_linked g)

-- how many nodes are live
abbrev pub live_count : Graph → ℕ
live_count g = count_by is_some g.allocated

-- how many edges there are
abbrev pub edge_count : Graph → ℕ
edge_count g = set.len g.edges
