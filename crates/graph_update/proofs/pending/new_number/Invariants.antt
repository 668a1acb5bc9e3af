use Rattle.std.proofs.Common.{◌≡◌, false, length, take}
use Rattle.graph_spec.specs.Graphs.{is_seen}
use Rattle.change_spec.specs.Steps.{after}
use Rattle.graph_steps.specs.StepLists.{steps_of}
use Rattle.graph_update.proofs.pending.new_number.Given as goal

abbrev pub invariant-loop-i : goal.invariant-loop-i
invariant-loop-i l = record {
  labels : l.labels ≡ length (after (steps_of (take l.i l.steps)) l.graph.graph).seen;
  unseen : is_seen (after (steps_of (take l.i l.steps)) l.graph.graph).seen l.label ≡ false;
}
