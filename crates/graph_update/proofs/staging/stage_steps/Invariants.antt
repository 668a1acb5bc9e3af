use Rattle.std.proofs.Common.{◌≡◌, take}
use Rattle.graph_steps.specs.StepLists.{steps_of}
use Rattle.graph_update.specs.StagedChanges.{IsStaged}
use Rattle.graph_update.proofs.staging.stage_steps.Given as goal

abbrev pub invariant-loop-i : goal.invariant-loop-i
invariant-loop-i l = record {
  graph : l.graph.graph ≡ l.fn.graph.graph;
  staged : IsStaged (steps_of (take l.i l.steps)) l.graph l.plans.items;
}
