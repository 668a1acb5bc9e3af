use Rattle.std.proofs.Common.{◌≡◌, ◌++◌, take}
use Rattle.graph_update.specs.PendingChanges.{graph_after}
use Rattle.graph_effects.specs.StepEffects.{edges_from_live}
use Rattle.graph_effects.proofs.edges.lose_parents.Given as goal

abbrev pub invariant-loop-i : goal.invariant-loop-i
invariant-loop-i l = l.lost.items ≡ l.initial.lost.items ++ edges_from_live (graph_after l.after) l.u (take l.i l.parents)
