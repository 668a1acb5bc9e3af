use Rattle.std.proofs.Common.{◌≡◌, ◌≤◌}
use Rattle.bisim_spec.specs.Below.{count_below}
use Rattle.extent_report.specs.MemberChains.{is_first_member}
use Rattle.extent_report.proofs.extents.count_begun.Given as goal

abbrev pub invariant-loop-n : goal.invariant-loop-n
invariant-loop-n l = record {
  counted : l.count ≡ count_below l.n (is_first_member l.chains);
  few : l.count ≤ l.n;
}
