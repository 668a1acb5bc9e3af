use Rattle.std.proofs.Common.{◌-◌}
use Rattle.graph_steps.specs.StepLists.{steps_of}
use Rattle.graph_steps.specs.StepLinks.{IsAhead}
use Rattle.graph_steps.proofs.links.along.Given as goal

abbrev pub invariant-loop-place : goal.invariant-loop-place
invariant-loop-place l = IsAhead l.n (steps_of l.steps) l.from l.place

abbrev pub decreases-loop-place : goal.decreases-loop-place
decreases-loop-place l = l.from - l.place
