use Rattle.std.proofs.Common.{◌≡◌, ◌≤◌, ◌+◌, ◌^◌, take}
use Rattle.std.specs.FinSet as set
use Rattle.change_spec.specs.Steps.{after}
use Rattle.graph_steps.specs.StepLists.{steps_of}
use Rattle.graph_update.proofs.pending.edges_after.Given as goal

abbrev pub invariant-loop-i : goal.invariant-loop-i
invariant-loop-i l = record {
  edges : l.edges ≡ set.len (after (steps_of (take l.i l.steps)) l.graph.graph).edges;
  few : l.edges ≤ 2 ^ 30 + l.i;
}
