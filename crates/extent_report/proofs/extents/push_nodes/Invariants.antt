use Rattle.std.proofs.Common.{◌≡◌, ◌+◌, ◌-◌, ◌++◌, true, length}
use Rattle.std.specs.Prelude.{string_bytes}
use Rattle.bisim_spec.specs.Tests.{together}
use Rattle.extent_report.specs.ListedBlocks.{texts_below}
use Rattle.extent_report.specs.MemberChains.{word_with}
use Rattle.extent_report.proofs.extents.push_nodes.Given as goal

abbrev pub invariant-loop-node : goal.invariant-loop-node
invariant-loop-node l = record {
  text : string_bytes l.out ≡ string_bytes l.fn.out ++ texts_below (l.last + 1) (word_with l.chains.block_of l.first);
  with : together l.chains.block_of l.first l.last ≡ true;
}

abbrev pub decreases-loop-node : goal.decreases-loop-node
decreases-loop-node l = length l.chains.block_of - l.last
