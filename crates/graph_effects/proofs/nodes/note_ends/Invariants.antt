use Rattle.std.proofs.Common.{◌≡◌, ◌++◌, length}
use Rattle.graph_update.specs.PendingChanges.{graph_after}
use Rattle.graph_effects.specs.StepEffects.{live_ends}
use Rattle.graph_effects.proofs.nodes.note_ends.Given as goal

abbrev pub invariant-loop-edge : goal.invariant-loop-edge
invariant-loop-edge l = l.nodes.items ++ live_ends l.side (graph_after l.after) l.left ≡ l.initial.nodes.items ++ live_ends l.side (graph_after l.after) l.edges

abbrev pub decreases-loop-edge : goal.decreases-loop-edge
decreases-loop-edge l = length l.left
