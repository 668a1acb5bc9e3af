use Rattle.std.proofs.Common.{take}
use Rattle.graph_update.specs.PendingChanges.{graph_after}
use Rattle.one_update.specs.UnsteadyNodes.{AreUnkept, HaveRead}
use Rattle.one_update.proofs.unsteady.fill_unkept.Given as goal

abbrev pub invariant-loop-i : goal.invariant-loop-i
invariant-loop-i g l = record {
  unkept : AreUnkept (graph_after l.after) l.base.blocks.block_of (take l.i l.lost) l.list.items;
  read : HaveRead l.after (take l.i l.lost) l.read.keys l.fn.steps l.steps;
}
