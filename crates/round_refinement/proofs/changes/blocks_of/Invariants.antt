use Rattle.std.proofs.Common.{◌≤◌, length}
use Rattle.round_refinement.proofs.ChangeLaws.{BlocksBelow}
use Rattle.round_refinement.proofs.changes.blocks_of.Given as goal

abbrev pub invariant-loop-i : goal.invariant-loop-i
invariant-loop-i l = record {
  blocks : BlocksBelow l.block l.nodes l.i l.numbers.items;
  within : l.i ≤ length l.nodes;
}
