use Rattle.std.proofs.Common.{◌≡◌, ◌≤◌, ◌-◌, ℕ, vec_len}
use Rattle.block_partition.specs.Tables.{full_at}
use Rattle.block_partition.proofs.freed.grow.Given as goal

abbrev pub invariant-runs : goal.invariant-runs
invariant-runs l = record {
  full : (k : ℕ) → full_at l.full.items k ≡ full_at l.initial.full.items k;
  longer : vec_len l.initial.full ≤ vec_len l.full;
  few : (k : ℕ) → l.runs ≤ k → vec_len l.initial.full ≤ k → vec_len l.full ≤ k;
}

abbrev pub decreases-runs : goal.decreases-runs
decreases-runs l = l.runs - vec_len l.full
