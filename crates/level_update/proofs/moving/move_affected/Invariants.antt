use Rattle.std.proofs.Common.{◌≡◌, ◌+◌, ◌*◌, ◌≤◌}
use Rattle.graph_spec.specs.Members.{has}
use Rattle.graph_update.specs.PendingChanges.{graph_after}
use Rattle.ak_family.specs.LevelDrafts.{blocks_shown}
use Rattle.level_update.specs.LevelCosts.{affected_cost}
use Rattle.level_update.specs.MovedLevels.{HasMovedAffected}
use Rattle.level_update.proofs.DraftLevels.{AreKeyedTo, one_more}
use Rattle.level_update.proofs.moving.move_affected.Given as goal

abbrev pub invariant-loop-i : goal.invariant-loop-i
invariant-loop-i g l = record {
  moving : HasMovedAffected l.sides (has l.ends) (graph_after l.after) l.family l.draft;
  keyed : AreKeyedTo l.sides (one_more l.sides (has l.ends) (graph_after l.after)) (graph_after l.after) l.family l.draft l.i;
  lowest : blocks_shown l.family l.draft 0 ≡ blocks_shown l.family l.initial.draft 0;
  cost : l.steps ≤ l.fn.steps + affected_cost l.sides l.after (has l.ends) l.k + l.i * (3 * affected_cost l.sides l.after (has l.ends) l.k);
}
