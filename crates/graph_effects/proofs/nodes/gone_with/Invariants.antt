use Rattle.std.proofs.Common.{◌≡◌, take}
use Rattle.graph_steps.specs.StepLists.{steps_of}
use Rattle.graph_effects.specs.StepEffects.{gone_with}
use Rattle.graph_effects.proofs.nodes.gone_with.Given as goal

abbrev pub invariant-loop-i : goal.invariant-loop-i
invariant-loop-i l = l.nodes.items ≡ gone_with l.graph.graph (steps_of (take l.i l.steps))
