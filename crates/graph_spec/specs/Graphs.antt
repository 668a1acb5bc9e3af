-- A directed graph with one label on each node.
use Rattle.std.specs.Prelude.{ℕ, ◌≡◌, Bool, List, [], slice_get, option_and_then, is_some, bytes_eq, Option, Some, IsTrue, refl}
use Rattle.std.specs.List.{list_any, IsDistinct}
use Rattle.std.specs.declared.cmp.Ordering.{Ordering}
use Rattle.std.specs.FinSet as set
use Rattle.std.specs.Coded.{Coded, code_by, coded×, coded_ℕ, coded_list, coded_option}
use Rattle.std.specs.Ordering.{nat_cmp, then_cmp, on}

-- edges in the order of where they begin, and then of where they end
abbrev pub edge_cmp : ℕ × ℕ → ℕ × ℕ → Ordering
edge_cmp = then_cmp (on (λ e. e.0) nat_cmp) (on (λ e. e.1) nat_cmp)

-- each pair leads from a node to a child of it
abbrev pub Edges : Type 0
Edges = set.FinSet edge_cmp

-- the labels of nodes by their numbers, the edges, and the labels that were ever seen
pub record Graph : Type 0 where
  -- for each number ever allocated, the label of its node, or none where the node is gone
  pub allocated : List (Option (List ℕ))
  -- each pair of nodes with an edge from the first to the second, once
  pub edges : Edges
  -- each label that was ever seen, once, in the order in which they came
  pub seen : List (List ℕ)

-- no number was allocated, and no label was seen
abbrev pub empty_graph : Graph
empty_graph = record { allocated = []; edges = set.empty; seen = [] }

-- the label of a live node; none where the number isn't live
abbrev pub label_of : Graph → ℕ → Option (List ℕ)
label_of g n = option_and_then (λ l. l) (slice_get g.allocated n)

-- whether the number is that of a live node
abbrev pub is_live : Graph → ℕ → Bool
is_live g n = is_some (label_of g n)

-- whether an edge leads from u to v
abbrev pub has_edge : Graph → ℕ → ℕ → Bool
has_edge g u v = set.contains g.edges (u, v)

-- whether the label was seen
abbrev pub is_seen : List (List ℕ) → List ℕ → Bool
is_seen seen t = list_any (bytes_eq t) seen

-- What holds of the empty graph, and of each that changes lead to: the labels seen are distinct, each live node's label is one
-- of them, and edges lead from live nodes to live nodes.
pub record IsGraph (g : Graph) : Type 0 where
  -- no label stands twice
  pub distinct : IsDistinct bytes_eq g.seen
  -- each node's label is among the labels
  pub labelled : (n : ℕ) (t : List ℕ) → label_of g n ≡ Some t → IsTrue (is_seen g.seen t)
  -- each edge begins at a live node
  pub from : (u v : ℕ) → IsTrue (has_edge g u v) → IsTrue (is_live g u)
  -- each edge ends at a live node
  pub onto : (u v : ℕ) → IsTrue (has_edge g u v) → IsTrue (is_live g v)

-- a graph is stored as its three parts
abbrev pub graph_code : Coded Graph
graph_code =
    code_by (List (Option (List ℕ)) × (Edges × List (List ℕ)))
    (coded× (coded_list (coded_option (coded_list coded_ℕ)))
    (coded× (set.code {R = edge_cmp} (coded× coded_ℕ coded_ℕ)) (coded_list (coded_list coded_ℕ))))
    (λ g. (g.allocated, (g.edges, g.seen)))
    (λ p. record { allocated = p.0; edges = p.1.0; seen = p.1.1 })
    (λ _. refl)
