use Rattle.std.proofs.Common.{ℕ, ◌≤◌, ◌<◌, ◌-◌, IsSome, length}
use Rattle.graph_spec.specs.Members.{at}
use Rattle.block_partition.proofs.freed.is_full.Given as goal

abbrev pub invariant-numbers : goal.invariant-numbers
invariant-numbers l = (c : ℕ) → l.from ≤ c → c < l.n → c < length l.labels → IsSome (at l.labels c)

abbrev pub decreases-numbers : goal.decreases-numbers
decreases-numbers l = l.end - l.n
