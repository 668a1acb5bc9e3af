use Rattle.std.proofs.Common.{◌≡◌, ◌-◌, ◌≤◌, ℕ}
use Rattle.std.specs.List.Sorted.{IsStrictlyIncreasing}
use Rattle.graph_spec.specs.Members.{has}
use Rattle.data_validate.proofs.RisingTests.{is_kept}
use Rattle.data_validate.proofs.checks.common.Given as goal

abbrev pub invariant-loop-n : goal.invariant-loop-n
invariant-loop-n l = record {
  within : l.from ≤ l.set.size;
  size : l.both.size ≡ l.set.size;
  rising : IsStrictlyIncreasing l.both.members;
  members : (m : ℕ) → has l.both.members m ≡ is_kept l.set.members (has l.other.members) l.from m;
}

abbrev pub decreases-loop-n : goal.decreases-loop-n
decreases-loop-n l = l.set.size - l.from
