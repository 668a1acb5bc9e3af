use Rattle.std.proofs.Common.{◌≤◌, length}
use Rattle.round_refinement.specs.Active.{AreMoved}
use Rattle.round_refinement.proofs.moves.moved_nodes.Given as goal

abbrev pub invariant-loop-i : goal.invariant-loop-i
invariant-loop-i l = record {
  moved : AreMoved l.block l.active l.groups l.names l.i l.moved.items;
  within : l.i ≤ length l.active;
}
