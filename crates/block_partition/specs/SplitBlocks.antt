-- Members of a block that become a block of their own.
use Rattle.std.specs.Prelude.{ℕ, ◌≡◌, ◌-◌, Bool, length, Some, if◌then◌else◌}
use Rattle.graph_spec.specs.Members.{at}
use Rattle.block_partition.specs.LabelledPartitions.{Partition, put}

-- these nodes are in the block b, which has the label of from and takes the capacity reserved for one block; all else
-- is as it was
pub record IsSplitOff (old new : Partition) (from : ℕ) (nodes : ℕ → Bool) (b : ℕ) : Type 0 where
  -- the given nodes go to b, and all others stay
  pub blocks : (n : ℕ) → at new.block_of n ≡ (if nodes n then Some b else at old.block_of n)
  -- as many numbers of nodes as before
  pub count : length new.block_of ≡ length old.block_of
  -- b has the label of the block that they leave
  pub labels : (label : ℕ) → at old.labels from ≡ Some label → new.labels ≡ put old.labels b label
  -- capacity for one block less
  pub reserved : new.reserved ≡ record { nodes = old.reserved.nodes; blocks = old.reserved.blocks - 1 }
