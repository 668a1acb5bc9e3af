-- A graph, and what is reserved.
use Rattle.std.specs.Prelude.{◌≡◌, ◌<◌, ◌^◌, ℕ, Bool, false, List, [], ◌∷◌, ◌++◌, ◌+◌, ◌&&◌, ◌||◌, not, refl, length, map, get_or, nat_lt, nat_eq, bytes_eq, if◌then◌else◌}
use Rattle.std.specs.List.{list_any, count_by}
use Rattle.std.specs.Set.{remove_key}
use Rattle.std.specs.Coded.{Coded, code_by, coded×, coded_ℕ, coded_list}
use Rattle.graph_spec.specs.Graphs.{Graph, graph_code, is_live, is_seen}
use Rattle.graph_spec.specs.Changes.{with_node}
use Rattle.label_graph.specs.LabelTable.{LabelTable, entries}
use Rattle.label_graph.specs.Nodes.{Node, labels_of, texts_of, edges_of}

-- What can be done with no more memory: nodes with these labels added, in their order, edges added between these pairs of
-- nodes, and nodes that there are given these labels, in any order.
pub record Reservation : Type 0 where
  -- the labels of nodes to come, in their order
  pub labels : List (List ℕ)
  -- the ends of edges to come
  pub pairs : List (ℕ × ℕ)
  -- the labels that nodes get instead of theirs
  pub relabels : List (List ℕ)

-- no labels and no pairs
abbrev pub none_reserved : Reservation
none_reserved = record { labels = []; pairs = []; relabels = [] }

-- the pair leads from u to v
abbrev pub is_pair : ℕ → ℕ → ℕ × ℕ → Bool
is_pair u v p = nat_eq p.0 u && nat_eq p.1 v

-- capacity for that edge is among what is reserved
abbrev pub has_pair : List (ℕ × ℕ) → ℕ → ℕ → Bool
has_pair pairs u v = list_any (is_pair u v) pairs

-- the pairs but the first that leads from u to v
abbrev pub without_pair : List (ℕ × ℕ) → ℕ → ℕ → List (ℕ × ℕ)
without_pair [] u v = []
without_pair (p ∷ ps) u v = if is_pair u v p then ps else p ∷ without_pair ps u v

-- how many pairs begin at the node
abbrev pub starting : ℕ → List (ℕ × ℕ) → ℕ
starting u pairs = count_by (λ p. nat_eq p.0 u) pairs

-- how many pairs end at the node
abbrev pub ending : ℕ → List (ℕ × ℕ) → ℕ
ending v pairs = count_by (λ p. nat_eq p.1 v) pairs

-- the texts but the first that is t
abbrev pub without_text : List (List ℕ) → List ℕ → List (List ℕ)
without_text texts t = remove_key (bytes_eq t) texts

-- one more label for a node to come is reserved, one more pair, or one more label for a node that there is
abbrev pub with_reserved_label : Reservation → List ℕ → Reservation
with_reserved_label r t = record r { labels = r.labels ++ t ∷ [] }

-- one more pair is reserved, behind the others
abbrev pub with_reserved_pair : Reservation → ℕ → ℕ → Reservation
with_reserved_pair r u v = record r { pairs = r.pairs ++ (u, v) ∷ [] }

-- one more label for a node that there is, behind the others
abbrev pub with_reserved_relabel : Reservation → List ℕ → Reservation
with_reserved_relabel r t = record r { relabels = r.relabels ++ t ∷ [] }

-- the edge, or the label for a node that there is, is no more among what is reserved, or once less
abbrev pub without_reserved_pair : Reservation → ℕ → ℕ → Reservation
without_reserved_pair r u v = record r { pairs = without_pair r.pairs u v }

-- the first label that is t, for a node that there is, is taken out
abbrev pub without_reserved_relabel : Reservation → List ℕ → Reservation
without_reserved_relabel r t = record r { relabels = without_text r.relabels t }

-- a graph, and what can be done to it with no more memory
pub record ReservedGraph : Type 0 where
  -- nodes, labels and edges
  pub graph : Graph
  -- for how many additions there is capacity
  pub reserved : Reservation

-- the number is that of a live node, or one that a node with a reserved label will have
abbrev pub can_be_joined : ReservedGraph → ℕ → Bool
can_be_joined h n =
    is_live h.graph n || (not (nat_lt n (length h.graph.allocated)) && nat_lt n (length h.graph.allocated + length h.reserved.labels))

-- the label was seen, or fewer than 2^30 were
abbrev pub FitsLabels : Graph → List ℕ → Type 0
FitsLabels g t = is_seen g.seen t ≡ false → length g.seen < 2 ^ 30

-- the same of the first label that is reserved for a node to come
abbrev pub FirstFitsLabels : ReservedGraph → Type 0
FirstFitsLabels h = (t : List ℕ) (more : List (List ℕ)) → h.reserved.labels ≡ t ∷ more → FitsLabels h.graph t

-- the first reserved label is that of one more node
abbrev pub AddsReserved : ReservedGraph → ReservedGraph → Type 0
AddsReserved old new = (t : List ℕ) (more : List (List ℕ)) → old.reserved.labels ≡ t ∷ more
    → new ≡ record { graph = with_node old.graph t; reserved = record old.reserved { labels = more } }

-- they are stored as their parts
abbrev pub reserved_code : Coded Reservation
reserved_code =
    code_by (List (List ℕ) × (List (ℕ × ℕ) × List (List ℕ)))
    (coded× (coded_list (coded_list coded_ℕ)) (coded× (coded_list (coded× coded_ℕ coded_ℕ)) (coded_list (coded_list coded_ℕ))))
    (λ r. (r.labels, (r.pairs, r.relabels))) (λ p. record { labels = p.0; pairs = p.1.0; relabels = p.1.1 }) (λ _. refl)

-- both are stored, the graph first
abbrev pub reserved_graph_code : Coded ReservedGraph
reserved_graph_code =
    code_by (Graph × Reservation) (coded× graph_code reserved_code) (λ h. (h.graph, h.reserved)) (λ p. record { graph = p.0; reserved = p.1 }) (λ _. refl)

-- what the nodes that are shown and the table of labels stand for
abbrev pub graph_by : LabelTable → ℕ → List Node → Graph
graph_by table shown nodes = record { allocated = texts_of table.texts (labels_of shown nodes); edges = edges_of nodes; seen = table.texts }

-- the texts of entries that are given by number
abbrev pub entry_texts : LabelTable → List ℕ → List (List ℕ)
entry_texts table = map (λ l. get_or (entries table) l [])

-- what is reserved, with labels by their numbers
abbrev pub reserved_by : LabelTable → List ℕ → List (ℕ × ℕ) → List ℕ → Reservation
reserved_by table numbers pairs relabels =
    record { labels = entry_texts table numbers; pairs = pairs; relabels = entry_texts table relabels }
