-- What a list of nodes stands for.
use Rattle.std.specs.Prelude.{◌≡◌, ◌≢◌, ℕ, zero, suc, ◌+◌, ◌-◌, ◌<◌, ◌≤◌, List, [], ◌∷◌, ◌++◌, Option, None, IsSome, map, length, slice_get, option_and_then, nat_eq, take, if◌then◌else◌, refl}
use Rattle.std.specs.Coded.{Coded, code_by, coded×, coded_ℕ, coded_list, coded_option}
use Rattle.std.specs.FinSet as set
use Rattle.graph_spec.specs.Graphs.{Edges}
use Rattle.graph_spec.specs.Members.{has}
use Rattle.cell_lists.specs.Segments.{IsWithout}

-- a list of neighbours, and how many fit with no more memory
pub record NeighbourList : Type 0 where
  -- the neighbours
  pub items : List ℕ
  -- how many fit with no more memory
  pub capacity : ℕ

-- a node: the number of its label, or none where it is gone, and its neighbours
pub record Node : Type 0 where
  -- the number of its label, none where it is gone
  pub label : Option ℕ
  -- its neighbours, with their capacity
  pub children : NeighbourList
  pub parents : NeighbourList

-- nodes, of which the first are shown; the others are for nodes to come
pub record NodeTable : Type 0 where
  -- all nodes, with those to come
  pub nodes : List Node
  -- how many are shown
  pub shown : ℕ

-- they are stored as their parts
abbrev pub neighbour_list_code : Coded NeighbourList
neighbour_list_code =
    code_by (List ℕ × ℕ) (coded× (coded_list coded_ℕ) coded_ℕ)
    (λ l. (l.items, l.capacity)) (λ p. record { items = p.0; capacity = p.1 }) (λ _. refl)

-- a node is stored as the number of its label, its children and its parents
abbrev pub node_code : Coded Node
node_code =
    code_by (Option ℕ × (NeighbourList × NeighbourList)) (coded× (coded_option coded_ℕ) (coded× neighbour_list_code neighbour_list_code))
    (λ n. (n.label, (n.children, n.parents))) (λ p. record { label = p.0; children = p.1.0; parents = p.1.1 }) (λ _. refl)

-- a table is stored as its nodes, and how many of them are shown
abbrev pub node_table_code : Coded NodeTable
node_table_code =
    code_by (List Node × ℕ) (coded× (coded_list node_code) coded_ℕ) (λ l. (l.nodes, l.shown)) (λ p. record { nodes = p.0; shown = p.1 }) (λ _. refl)

-- for each node that is shown the number of its label, and none where it is gone
abbrev pub labels_of : ℕ → List Node → List (Option ℕ)
labels_of shown nodes = take shown (map (λ n. n.label) nodes)

-- the label's number of one node, and none past the end
abbrev pub number_at : List (Option ℕ) → ℕ → Option ℕ
number_at numbers n = option_and_then (λ l. l) (slice_get numbers n)

-- the texts of labels that are given by number
abbrev pub texts_of : List (List ℕ) → List (Option ℕ) → List (Option (List ℕ))
texts_of texts = map (option_and_then (slice_get texts))

-- the children of a node; none past the end
abbrev pub children_of : List Node → ℕ → List ℕ
children_of [] n = []
children_of (x ∷ xs) zero = x.children.items
children_of (x ∷ xs) (suc n) = children_of xs n

-- the parents of a node; none past the end
abbrev pub parents_of : List Node → ℕ → List ℕ
parents_of [] n = []
parents_of (x ∷ xs) zero = x.parents.items
parents_of (x ∷ xs) (suc n) = parents_of xs n

-- how many more children of a node fit with no more memory
abbrev pub child_reserved : List Node → ℕ → ℕ
child_reserved [] n = 0
child_reserved (x ∷ xs) zero = x.children.capacity - length x.children.items
child_reserved (x ∷ xs) (suc n) = child_reserved xs n

-- how many more parents of a node fit with no more memory
abbrev pub parent_reserved : List Node → ℕ → ℕ
parent_reserved [] n = 0
parent_reserved (x ∷ xs) zero = x.parents.capacity - length x.parents.items
parent_reserved (x ∷ xs) (suc n) = parent_reserved xs n

-- each edge, by where it begins, from the node u on
abbrev pub pairs_from : ℕ → List Node → List (ℕ × ℕ)
pairs_from u [] = []
pairs_from u (x ∷ xs) = map (λ v. (u, v)) x.children.items ++ pairs_from (u + 1) xs

-- the edges, by the children that each node lists
abbrev pub edges_of : List Node → Edges
edges_of nodes = set.from_list (pairs_from 0 nodes)

-- parents and children list each other
abbrev pub Mirrors : List Node → Type 0
Mirrors nodes = (u v : ℕ) → has (children_of nodes u) v ≡ has (parents_of nodes v) u

-- the node is shown, and isn't gone
abbrev pub IsLive : ℕ → List Node → ℕ → Type 0
IsLive shown nodes n = IsSome (number_at (labels_of shown nodes) n)

-- the node isn't gone: it is live, or it is to come
abbrev pub IsKept : ℕ → List Node → ℕ → Type 0
IsKept shown nodes n = n < shown → IsLive shown nodes n

-- g is a gone node, other than u
pub record IsGoneBeside (shown : ℕ) (nodes : List Node) (u g : ℕ) : Type 0 where
  -- it is a number that is shown
  pub given : g < shown
  -- it isn't u
  pub other : g ≢ u
  -- it has no label
  pub gone : number_at (labels_of shown nodes) g ≡ None

-- the nodes that are shown are the same, none is lacking, and none that isn't gone has less reserved
pub record SameNodes (shown : ℕ) (old new : List Node) : Type 0 where
  -- there are no fewer nodes
  pub size : length old ≤ length new
  -- those that are shown have the same labels
  pub labels : labels_of shown new ≡ labels_of shown old
  -- each has the same children
  pub children : (w : ℕ) → children_of new w ≡ children_of old w
  -- and the same parents
  pub parents : (w : ℕ) → parents_of new w ≡ parents_of old w
  -- a node that isn't gone has no less capacity for either
  pub child_reserves : (w : ℕ) → IsKept shown old w → child_reserved old w ≤ child_reserved new w
  pub parent_reserves : (w : ℕ) → IsKept shown old w → parent_reserved old w ≤ parent_reserved new w

-- that many more children of u and that many more parents of v fit
pub record HasReserved (nodes : List Node) (u v children parents : ℕ) : Type 0 where
  -- so many children more fit at u
  pub child : children ≤ child_reserved nodes u
  -- so many parents more fit at v
  pub parent : parents ≤ parent_reserved nodes v

-- no node has less reserved
pub record KeepsReserved (old new : List Node) : Type 0 where
  -- there are as many nodes
  pub size : length new ≡ length old
  -- no node has less capacity for children
  pub child : (w : ℕ) → child_reserved old w ≤ child_reserved new w
  -- nor for parents
  pub parent : (w : ℕ) → parent_reserved old w ≤ parent_reserved new w

-- no node has less reserved, but that u has one child less and v one parent less
pub record UsesReserved (old new : List Node) (u v : ℕ) : Type 0 where
  -- there are as many nodes
  pub size : length new ≡ length old
  -- no node has less capacity for children, but for one less at u
  pub child : (w : ℕ) → child_reserved old w ≤ child_reserved new w + (if nat_eq w u then 1 else 0)
  -- nor for parents, but for one less at v
  pub parent : (w : ℕ) → parent_reserved old w ≤ parent_reserved new w + (if nat_eq w v then 1 else 0)

-- the nodes are the same, but that v isn't among the children of u, nor u among the parents of v
pub record LacksEdge (shown : ℕ) (old new : List Node) (u v : ℕ) : Type 0 where
  -- nodes have the same labels
  pub labels : labels_of shown new ≡ labels_of shown old
  -- v is gone from the children of u
  pub child : IsWithout (children_of old u) (children_of new u) v
  -- other nodes have the same children
  pub other_children : (w : ℕ) → w ≢ u → children_of new w ≡ children_of old w
  -- u is gone from the parents of v
  pub parent : IsWithout (parents_of old v) (parents_of new v) u
  -- other nodes have the same parents
  pub other_parents : (w : ℕ) → w ≢ v → parents_of new w ≡ parents_of old w
