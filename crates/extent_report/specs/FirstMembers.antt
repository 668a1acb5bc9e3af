-- The least members of blocks.
use Rattle.std.specs.Prelude.{ℕ, ◌∷◌, ◌&&◌, not, Bool, false, List, [], is_some, nat_eq}
use Rattle.graph_spec.specs.Members.{at}
use Rattle.block_partition.specs.LabelledPartitions.{Partition, is_member}
use Rattle.bisim_spec.specs.Below.{any_below}

-- whether the number is the first of the list
abbrev pub is_head : List ℕ → ℕ → Bool
is_head [] n = false
is_head (x ∷ xs) n = nat_eq n x

-- whether b is a block of which the node is the least member
abbrev pub first_member_block : Partition → ℕ → ℕ → Bool
first_member_block p b n = is_some (at p.labels b) && (is_member p b n && not (any_below n (is_member p b)))
