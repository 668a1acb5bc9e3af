use Rattle.std.proofs.Common.{◌≡◌, take}
use Rattle.graph_spec.specs.Graphs.{Graph}
use Rattle.label_graph.specs.LabelTable.{entries}
use Rattle.change_spec.specs.Steps.{after}
use Rattle.graph_steps.specs.StepLists.{steps_of}
use Rattle.graph_update.proofs.pending.each_ahead.Given as goal

abbrev pub invariant-loop-i : goal.invariant-loop-i
invariant-loop-i l = (g : Graph) → l.labels.texts ≡ g.seen → (after (steps_of (take l.i l.steps)) g).seen ≡ take l.shown (entries l.labels)
