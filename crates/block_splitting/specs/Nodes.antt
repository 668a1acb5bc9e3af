-- Sets of nodes.
use Rattle.std.specs.Prelude.{ℕ, ◌≡◌, true, List, IsSome}
use Rattle.graph_spec.specs.Graphs.{Graph}
use Rattle.graph_spec.specs.Members.{has}
use Rattle.label_graph.specs.GraphViews.{label_number}

-- nodes below a size, each once, in the order in which they came
pub record NodeList : Type 0 where
  -- the nodes are below it
  pub size : ℕ
  -- each once, in the order in which they came
  pub nodes : List ℕ

-- the same numbers stand in both lists
pub record AreMarked (members nodes : List ℕ) : Type 0 where
  -- a number stands in the one exactly where it stands in the other
  pub same : (n : ℕ) → has members n ≡ has nodes n

-- all in the list are nodes of the graph
abbrev pub AreNodes : Graph → List ℕ → Type 0
AreNodes g nodes = (n : ℕ) → has nodes n ≡ true → IsSome (label_number g n)
