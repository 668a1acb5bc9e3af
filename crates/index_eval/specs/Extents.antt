-- The members of some blocks of a partition.
use Rattle.std.specs.Prelude.{ℕ, ◌≡◌, Bool, false, List, Option, None, Some, IsTrue}
use Rattle.std.specs.List.Sorted.{IsStrictlyIncreasing}
use Rattle.graph_spec.specs.Members.{has, at}

-- whether this is one of the blocks
abbrev pub is_in_blocks : List ℕ → Option ℕ → Bool
is_in_blocks blocks None = false
is_in_blocks blocks (Some b) = has blocks b

-- the nodes are those whose block has the property, each once, in the order of their numbers
pub record AreOfBlocks (block : List (Option ℕ)) (P : ℕ → Type 0) (nodes : List ℕ) : Type 0 where
  -- the nodes rise
  pub rising : IsStrictlyIncreasing nodes
  -- each is in a block that has the property
  pub sound : (n : ℕ) → IsTrue (has nodes n) → (b : ℕ) × (at block n ≡ Some b) × P b
  -- each node of such a block is there
  pub complete : (n b : ℕ) → at block n ≡ Some b → P b → IsTrue (has nodes n)
