-- A partition whose list of blocks goes on.
use Rattle.std.specs.Prelude.{ℕ, ◌-◌, [], ◌∷◌, ◌++◌, Option}
use Rattle.block_partition.specs.LabelledPartitions.{Partition}

-- the next number past the end of the list has this block, or none, and takes the capacity reserved for one
abbrev pub with_next : Partition → Option ℕ → Partition
with_next p block =
    record { block_of = p.block_of ++ block ∷ []; labels = p.labels; reserved = record { nodes = p.reserved.nodes - 1; blocks = p.reserved.blocks } }
