use Rattle.std.proofs.Common.{◌+◌, ◌*◌, ◌≤◌}
use Rattle.graph_spec.specs.Members.{has}
use Rattle.graph_spec.specs.Shapes.{shape_of}
use Rattle.bisim_spec.specs.SidedLevels.{affected}
use Rattle.graph_update.specs.PendingChanges.{graph_after}
use Rattle.level_update.specs.LevelCosts.{affected_cost}
use Rattle.level_update.specs.MovedLevels.{HasMovedAffected, HasMovedNear}
use Rattle.level_update.proofs.DraftLevels.{AreKeyedTo}
use Rattle.level_update.proofs.nearer.move_nearer.Given as goal

abbrev pub invariant-loop-i : goal.invariant-loop-i
invariant-loop-i g l = record {
  moving : HasMovedAffected l.sides (has l.ends) (graph_after l.after) l.family l.draft;
  near : HasMovedNear l.sides (has l.ends) l.after.before (graph_after l.after) l.family l.draft;
  keyed : AreKeyedTo l.sides (affected l.sides (shape_of (graph_after l.after)) (has l.ends)) (graph_after l.after) l.family l.draft l.i;
  cost : l.steps ≤ l.fn.steps + affected_cost l.sides l.after (has l.ends) l.k + l.i * (3 * affected_cost l.sides l.after (has l.ends) l.k);
}
