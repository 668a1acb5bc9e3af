use Rattle.std.proofs.Common.{◌≡◌, take}
use Rattle.graph_spec.specs.Graphs.{is_seen}
use Rattle.change_spec.specs.Steps.{after}
use Rattle.graph_steps.specs.StepLists.{steps_of}
use Rattle.graph_steps.proofs.reads.is_seen.Given as goal

abbrev pub invariant-loop-i : goal.invariant-loop-i
invariant-loop-i l = l.seen ≡ is_seen (after (steps_of (take l.i l.prefix)) l.graph.graph).seen l.text
