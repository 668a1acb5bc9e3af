-- What queries and indexes see of a graph.
use Rattle.std.specs.Prelude.{ℕ, ◌<◌, Bool, List, length, Option, option_and_then, slice_get, IsTrue, IsSome}
use Rattle.graph_spec.specs.Graphs.{Graph, label_of, has_edge}

-- labels and edges, by the numbers of nodes
pub record Shape : Type 0 where
  -- the nodes have numbers below it
  pub size : ℕ
  -- the text of a node's label; none where the number is no node
  pub label : ℕ → Option (List ℕ)
  -- whether an edge leads from the first node to the second
  pub edge : ℕ → ℕ → Bool

-- the number has a label
abbrev pub IsNode : Shape → ℕ → Type 0
IsNode s n = IsSome (s.label n)

-- an edge leads from p to n
abbrev pub IsParent : Shape → ℕ → ℕ → Type 0
IsParent s p n = IsTrue (s.edge p n)

-- an edge leads from n to c
abbrev pub IsChild : Shape → ℕ → ℕ → Type 0
IsChild s c n = IsTrue (s.edge n c)

-- the nodes are below the size, and edges lead from nodes to nodes
pub record IsShape (s : Shape) : Type 0 where
  -- nodes are below the size
  pub below : (n : ℕ) → IsNode s n → n < s.size
  -- an edge begins at a node
  pub from : (u v : ℕ) → IsTrue (s.edge u v) → IsNode s u
  -- and ends at one
  pub onto : (u v : ℕ) → IsTrue (s.edge u v) → IsNode s v

-- the live nodes of a graph
abbrev pub shape_of : Graph → Shape
shape_of g = record { size = length g.allocated; label = label_of g; edge = has_edge g }

-- a graph whose labels are numbers of a table of texts
abbrev pub shape_by : List (List ℕ) → ℕ → (ℕ → Option ℕ) → (ℕ → ℕ → Bool) → Shape
shape_by texts size label edge = record { size = size; label = λ n. option_and_then (λ l. slice_get texts l) (label n); edge = edge }
