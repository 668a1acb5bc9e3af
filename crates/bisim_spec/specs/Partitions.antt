-- Partitions of the nodes into numbered blocks. A partition is a list: at each number the block of that node, or none.
use Rattle.std.specs.Prelude.{ℕ, ◌≡◌, List, Option, Some, IsSome}
use Rattle.graph_spec.specs.Members.{at}
use Rattle.graph_spec.specs.Shapes.{Shape, IsNode}

-- two nodes are in one block
abbrev pub Together : List (Option ℕ) → ℕ → ℕ → Type 0
Together block u v = (b : ℕ) × (at block u ≡ Some b) × (at block v ≡ Some b)

-- exactly the nodes have a block
pub record IsPartition (s : Shape) (block : List (Option ℕ)) : Type 0 where
  -- each node has a block
  pub live : (n : ℕ) → IsNode s n → IsSome (at block n)
  -- nothing else has one
  pub only : (n : ℕ) → IsSome (at block n) → IsNode s n

-- the blocks are the classes of the relation: two nodes are in one block exactly where they are related
pub record Agrees (s : Shape) (block : List (Option ℕ)) (R : ℕ → ℕ → Type 0) : Type 0 where
  -- exactly the nodes have blocks
  pub partition : IsPartition s block
  -- two nodes of one block are related
  pub related : (u v : ℕ) → Together block u v → R u v
  -- related nodes are in one block
  pub grouped : (u v : ℕ) → IsNode s u → IsNode s v → R u v → Together block u v
