-- Tables of a partition that are filled from lists.
use Rattle.std.specs.Prelude.{ℕ, ◌≡◌, List, Option, None, nat_lt, slice_get, if◌then◌else◌}
use Rattle.block_partition.specs.LabelledPartitions.{Partition}
use Rattle.graph_spec.specs.Members.{at}

-- the blocks of a partition have these labels
abbrev pub HaveLabels : Partition → List ℕ → Type 0
HaveLabels p labels = (b : ℕ) → at p.labels b ≡ slice_get labels b

-- each node's block is the one that the list gives
abbrev pub SameBlocks : List (Option ℕ) → List (Option ℕ) → Type 0
SameBlocks xs ys = (n : ℕ) → at xs n ≡ at ys n

-- the same for the nodes below a number, and the others have none
abbrev pub SameBelow : ℕ → List (Option ℕ) → List (Option ℕ) → Type 0
SameBelow n xs ys = (m : ℕ) → at xs m ≡ (if nat_lt m n then at ys m else None)
