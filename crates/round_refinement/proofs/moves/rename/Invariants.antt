use Rattle.std.proofs.Common.{◌≤◌, length}
use Rattle.round_refinement.specs.Active.{AreRenamed}
use Rattle.round_refinement.proofs.moves.rename.Given as goal

abbrev pub invariant-loop-i : goal.invariant-loop-i
invariant-loop-i l = record {
  renamed : AreRenamed l.initial.block l.block l.active l.groups l.names l.i;
  within : l.i ≤ length l.active;
}
