-- Nodes that are alone in their block.
use Rattle.std.specs.Prelude.{ℕ, Bool, false, Option, None, Some, nat_eq, ◌≡◌, ◌||◌, ◌&&◌, not, List}
use Rattle.graph_spec.specs.Members.{at, has}
use Rattle.block_partition.specs.LabelledPartitions.{Partition, member_count}

-- whether the block has one member
abbrev pub has_one : Partition → Option ℕ → Bool
has_one p None = false
has_one p (Some b) = nat_eq (member_count p b) 1

-- whether the node is alone in its block
abbrev pub is_alone : Partition → ℕ → Bool
is_alone p n = has_one p (at p.block_of n)

-- besides those that were active, those are that pass the test and aren't alone
abbrev pub Activates : (ℕ → Bool) → Partition → List ℕ → List ℕ → Type 0
Activates passes p active_nodes active_nodes2 = (m : ℕ) → has active_nodes2 m ≡ (has active_nodes m || (passes m && not (is_alone p m)))
