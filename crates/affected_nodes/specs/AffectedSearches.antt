-- What a search for affected nodes has found.
use Rattle.std.specs.Prelude.{◌≡◌, ◌⊎◌, ◌+◌, ◌<◌, ◌≤◌, ◌++◌, ℕ, Bool, List, length, take, slice_index, IsTrue, refl}
use Rattle.std.specs.Coded.{Coded, code_by, coded×, coded_ℕ, coded_list}
use Rattle.graph_spec.specs.Members.{has, Lists}
use Rattle.graph_spec.specs.Shapes.{Shape}
use Rattle.bisim_spec.specs.Reach.{within_distance}

-- the nodes that were found, by their distance
pub record Searched : Type 0 where
  -- the nodes, in the order of their distance
  pub nodes : List ℕ
  -- how many of them are within so many edges
  pub ends : List ℕ

-- it is stored as its two lists
abbrev pub searched_code : Coded Searched
searched_code =
    code_by (List ℕ × List ℕ) (coded× (coded_list coded_ℕ) (coded_list coded_ℕ)) (λ s. (s.nodes, s.ends)) (λ p. record { nodes = p.0; ends = p.1 })
    (λ _. refl)

-- the nodes within i edges
abbrev pub within : Searched → ℕ → List ℕ
within found i = take (slice_index found.ends i) found.nodes

-- for each number of edges up to k the nodes are found that are within it
pub record AreWithinDistance (s : Shape) (from : ℕ → Bool) (k : ℕ) (found : Searched) : Type 0 where
  -- one count for each number of edges, from 0 to k
  pub count : length found.ends ≡ k + 1
  -- the nodes found by then are just those within so many edges
  pub each : (i : ℕ) → i ≤ k → Lists (within_distance s from i) (within found i)

-- the children of the first i of the nodes are put behind them
pub record IsSpread (s : Shape) (nodes : List ℕ) (i : ℕ) (met : List ℕ) : Type 0 where
  -- the nodes come first
  pub prefix : (rest : List ℕ) × (met ≡ nodes ++ rest)
  -- each child of one of the first i is there
  pub into : (j n : ℕ) → j < i → IsTrue (s.edge (slice_index nodes j) n) → IsTrue (has met n)
  -- there is nothing else
  pub only : (n : ℕ) → IsTrue (has met n) → IsTrue (has nodes n) ⊎ ((j : ℕ) × (j < i) × IsTrue (s.edge (slice_index nodes j) n))
