use Rattle.std.proofs.Common.{List, length}
use Rattle.change_spec.specs.Steps.{Step}
use Rattle.graph_update.specs.StagedChanges.{ArePlanned}
use Rattle.graph_update.proofs.PlannedSteps.{AreLeft}
use Rattle.graph_update.proofs.staging.make_all.Given as goal

abbrev pub invariant-plans : goal.invariant-plans
invariant-plans l = (e : List Step) → ArePlanned e l.fn.graph l.plans → AreLeft e l.fn.graph.graph l.graph l.left

abbrev pub decreases-plans : goal.decreases-plans
decreases-plans l = length l.left
