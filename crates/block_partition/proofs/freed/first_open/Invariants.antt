use Rattle.std.proofs.Common.{ℕ, ◌≤◌, ◌<◌, ◌-◌, ◌*◌, List, Option, IsSome, length, vec_len}
use Rattle.graph_spec.specs.Members.{at}
use Rattle.block_partition.specs.Soundness.{AreFullRuns}
use Rattle.block_partition.proofs.freed.first_open.Given as goal

abbrev pub invariant-runs : goal.invariant-runs
invariant-runs l = record {
  from : l.run ≤ l.end;
  passed : (labels : List (Option ℕ)) → AreFullRuns labels l.full.items
      → (c : ℕ) → 64 * l.run ≤ c → c < 64 * l.end → c < length labels → IsSome (at labels c);
}

abbrev pub decreases-runs : goal.decreases-runs
decreases-runs l = vec_len l.full - l.end
