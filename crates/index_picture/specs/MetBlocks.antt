-- Which blocks were met on the way over the nodes.
use Rattle.std.specs.Prelude.{ℕ, ◌≡◌, ◌<◌, Bool, false, List, length, slice_index_or}
use Rattle.block_partition.specs.LabelledPartitions.{Partition, is_member}
use Rattle.bisim_spec.specs.Below.{any_below}

-- There is a mark for each block number: whether a node below n is of the block.
pub record AreMet (p : Partition) (n : ℕ) (met : List Bool) : Type 0 where
  -- there is a mark for each block number
  pub all : length met ≡ length p.labels
  -- it says whether some node below n is in the block
  pub marks : (b : ℕ) → b < length met → slice_index_or met b false ≡ any_below n (is_member p b)
