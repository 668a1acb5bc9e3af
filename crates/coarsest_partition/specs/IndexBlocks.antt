-- Partitions that are the blocks of an index graph.
use Rattle.std.specs.Prelude.{ℕ, ◌≡◌}
use Rattle.graph_spec.specs.Graphs.{Graph}
use Rattle.block_partition.specs.LabelledPartitions.{Partition}
use Rattle.bisim_spec.specs.Supports.{edges_between}
use Rattle.bisim_spec.specs.IndexGraphs.{SupportTable, ViewFits, support_at}
use Rattle.block_splitting.specs.Splits.{AreLabelled, AreInhabited}

-- with the numbers of edges as supports, it is a view of the graph: each block has a member, and its members' label
abbrev pub FitsWithSupports : Graph → Partition → Type 0
FitsWithSupports g p = (supports : SupportTable) → ((a b : ℕ) → support_at supports a b ≡ edges_between g.edges p.block_of a b)
    → ViewFits g (record { block_of = p.block_of; labels = p.labels; supports = supports })

-- what each block had of these two, each has still
pub record StayIndexBlocks (g : Graph) (old new : Partition) : Type 0 where
  -- where each block had the label of its members, each has it
  pub labelled : AreLabelled g old → AreLabelled g new
  -- where each block had a member, each has one
  pub inhabited : AreInhabited old → AreInhabited new
