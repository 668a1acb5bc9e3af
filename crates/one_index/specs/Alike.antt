-- What makes a partition stable, block by block.
use Rattle.std.specs.Prelude.{◌≡◌, ℕ, Bool, false, List, Option, None, Some}
use Rattle.std.specs.List.{list_any}
use Rattle.graph_spec.specs.Shapes.{Shape, IsParent}
use Rattle.graph_spec.specs.Members.{at}
use Rattle.bisim_spec.specs.Bisimilarity.{Matched}
use Rattle.bisim_spec.specs.Partitions.{Together}
use Rattle.block_partition.specs.LabelledPartitions.{Partition, is_member}

-- two nodes have one label, and parents in the same blocks
pub record AreAlike (s : Shape) (block : List (Option ℕ)) (u v : ℕ) : Type 0 where
  -- they have one label
  pub label : s.label u ≡ s.label v
  -- each parent of the one is in one block with some parent of the other, and the other way round
  pub parents : Matched (IsParent s) (Together block) u v

-- the members of a block are alike
pub record IsUniform (s : Shape) (block : List (Option ℕ)) (b : ℕ) : Type 0 where
  -- two members have one label, and parents in the same blocks
  pub alike : (u v : ℕ) → at block u ≡ Some b → at block v ≡ Some b → AreAlike s block u v

-- whether one of the nodes is in this block
abbrev pub is_among : Partition → List ℕ → Option ℕ → Bool
is_among p nodes None = false
is_among p nodes (Some b) = list_any (is_member p b) nodes
