use Rattle.std.proofs.Common.{ℕ, ◌≡◌, ◌≤◌, ◌<◌, ◌-◌, ◌*◌, ◌^◌, List, Option, IsSome, length, vec_len}
use Rattle.graph_spec.specs.Members.{at}
use Rattle.block_partition.specs.Soundness.{AreFullRuns}
use Rattle.block_partition.proofs.freed.widen_to.Given as goal

abbrev pub invariant-levels : goal.invariant-levels
invariant-levels l = record {
  size : l.size ≡ 16 ^ l.level;
  most : l.level ≤ 7;
  full : (labels : List (Option ℕ)) → AreFullRuns labels l.initial.full.items
      → ((c : ℕ) → c < 64 * l.end → c < length labels → IsSome (at labels c)) → AreFullRuns labels l.full.items;
  len : vec_len l.full ≡ vec_len l.initial.full;
}

abbrev pub decreases-levels : goal.decreases-levels
decreases-levels l = 7 - l.level
