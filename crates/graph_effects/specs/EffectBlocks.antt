-- Blocks of nodes on the way from a graph to that which a change leaves.
use Rattle.std.specs.Prelude.{ℕ, ◌≡◌, List, Option, Some, None, IsTrue, IsFalse}
use Rattle.graph_spec.specs.Graphs.{Graph}
use Rattle.graph_spec.specs.Members.{at, has}
use Rattle.label_graph.specs.GraphViews.{label_number}

-- Nodes that have come are in blocks with their labels, those that have gone are in none, and all others are where they
-- were.
pub record HaveNodesMoved (g2 : Graph) (base block : List (Option ℕ)) (labels : ℕ → Option ℕ) (came gone : List ℕ) : Type 0 where
  -- each node that has come is in a block with its label
  pub joined : (n : ℕ) → IsTrue (has came n)
      → (b : ℕ) × (d : ℕ) × (at block n ≡ Some b) × (labels b ≡ Some d) × (label_number g2 n ≡ Some d)
  -- each that has gone is in none
  pub left : (n : ℕ) → IsTrue (has gone n) → at block n ≡ None
  -- each other node is where it was
  pub others : (n : ℕ) → IsFalse (has came n) → IsFalse (has gone n) → at block n ≡ at base n
