use Rattle.std.proofs.Common.{ℕ, ◌≡◌, ◌≤◌, ◌<◌, ◌-◌, ◌^◌, vec_len}
use Rattle.block_partition.specs.Tables.{full_at, group}
use Rattle.block_partition.proofs.freed.stop_at.Given as goal

abbrev pub invariant-levels : goal.invariant-levels
invariant-levels l = record {
  size : l.size ≡ 16 ^ l.level;
  most : l.level ≤ 7;
  before : (k : ℕ) → k < l.level → full_at l.full.items (group k l.run) ≤ l.run - group k l.run;
  less : (k : ℕ) → full_at l.full.items k ≤ full_at l.initial.full.items k;
  len : vec_len l.full ≡ vec_len l.initial.full;
}

abbrev pub decreases-levels : goal.decreases-levels
decreases-levels l = 7 - l.level
