use Rattle.std.proofs.Common.{◌≡◌, ◌+◌, ◌≤◌, length}
use Rattle.one_index.proofs.tests.put_blocks.Given as goal

abbrev pub invariant-loop-label : goal.invariant-loop-label
invariant-loop-label l = record {
  few : length l.labels ≤ l.blocks.reserved.blocks + l.label-index;
  nodes : l.blocks.reserved.nodes ≡ l.fn.blocks.reserved.nodes;
}
