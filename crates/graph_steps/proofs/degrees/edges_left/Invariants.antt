use Rattle.std.proofs.Common.{◌≡◌, take}
use Rattle.change_spec.specs.Named.{is_dropped}
use Rattle.graph_steps.specs.StepLists.{steps_of}
use Rattle.graph_steps.specs.Degrees.{staying}
use Rattle.graph_steps.proofs.degrees.edges_left.Given as goal

abbrev pub invariant-loop-i : goal.invariant-loop-i
invariant-loop-i l = l.count ≡ staying l.graph.graph l.u (is_dropped (steps_of (take l.i l.prefix)))
