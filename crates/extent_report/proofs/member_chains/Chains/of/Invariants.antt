use Rattle.std.proofs.Common.{◌≡◌, length}
use Rattle.extent_report.specs.MemberChains.{AreChained}
use Rattle.extent_report.proofs.member_chains.Chains.of.Given as goal

abbrev pub invariant-loop-n : goal.invariant-loop-n
invariant-loop-n l = record {
  chained : AreChained l.summary.blocks.block_of l.first.items l.next.items l.n;
  all : length l.first.items ≡ length l.summary.blocks.labels;
}

abbrev pub decreases-loop-n : goal.decreases-loop-n
decreases-loop-n l = l.n
