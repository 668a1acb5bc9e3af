use Rattle.std.proofs.Common.{◌≡◌, ◌++◌, drop}
use Rattle.graph_update.specs.PendingChanges.{graph_after}
use Rattle.graph_effects.specs.Effects.{is_relabelled}
use Rattle.graph_effects.specs.StepEffects.{relabelled_where}
use Rattle.graph_effects.proofs.relabelling.note_all.Given as goal

abbrev pub invariant-loop-i : goal.invariant-loop-i
invariant-loop-i l =
    l.nodes.items ++ relabelled_where (is_relabelled l.after.before (graph_after l.after)) (drop l.i l.change)
    ≡ l.initial.nodes.items ++ relabelled_where (is_relabelled l.after.before (graph_after l.after)) l.change
