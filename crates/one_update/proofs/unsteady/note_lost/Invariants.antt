use Rattle.std.proofs.Common.{◌≡◌, ◌++◌, length}
use Rattle.bisim_spec.specs.declared.sides.Side.TheVariants.{Parents}
use Rattle.graph_update.specs.PendingChanges.{graph_after}
use Rattle.graph_effects.specs.StepEffects.{live_ends}
use Rattle.one_update.proofs.unsteady.note_lost.Given as goal

abbrev pub invariant-loop-edge : goal.invariant-loop-edge
invariant-loop-edge l = l.nodes.items ++ live_ends Parents (graph_after l.after) l.left ≡ l.initial.nodes.items ++ live_ends Parents (graph_after l.after) l.lost

abbrev pub decreases-loop-edge : goal.decreases-loop-edge
decreases-loop-edge l = length l.left
