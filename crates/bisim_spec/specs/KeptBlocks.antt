-- What a change leaves of a partition.
use Rattle.std.specs.Prelude.{◌≡◌, ◌≢◌, ℕ, List, Option}
use Rattle.graph_spec.specs.Shapes.{Shape, IsNode, IsParent}
use Rattle.graph_spec.specs.Members.{at}
use Rattle.bisim_spec.specs.Partitions.{Together}

-- what is a node both before and after has the same block
pub record KeepsBlocks (s s2 : Shape) (block block2 : List (Option ℕ)) : Type 0 where
  -- such a node has the block that it had
  pub kept : (n : ℕ) → IsNode s n → IsNode s2 n → at block2 n ≡ at block n

-- v has a parent other than u in the block of u
pub record HasOther (s : Shape) (block : List (Option ℕ)) (u v : ℕ) : Type 0 where
  -- that parent
  pub parent : ℕ
  -- it isn't u
  pub other : parent ≢ u
  -- it is a parent of v
  pub is_parent : IsParent s parent v
  -- it is in the block of u
  pub together : Together block parent u
