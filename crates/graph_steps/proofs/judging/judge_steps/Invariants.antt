use Rattle.std.proofs.Common.{◌≡◌, ◌≤◌, ◌+◌, Ok, false, length, take}
use Rattle.change_spec.specs.Steps.{after, apply_all, is_new}
use Rattle.change_spec.specs.Places.{CanMakeAll}
use Rattle.graph_steps.specs.StepLists.{steps_of}
use Rattle.graph_steps.specs.Counted.{AreCounts}
use Rattle.graph_steps.proofs.judging.judge_steps.Given as goal

abbrev pub invariant-loop-i : goal.invariant-loop-i
invariant-loop-i l = record {
  can : CanMakeAll (steps_of (take l.i l.steps)) l.graph.graph;
  applied : apply_all (steps_of (take l.i l.steps)) l.graph.graph l.limits ≡ Ok (after (steps_of (take l.i l.steps)) l.graph.graph);
  new : l.new ≡ is_new (steps_of (take l.i l.steps)) l.graph.graph;
  counts : AreCounts l.exact l.counts (after (steps_of (take l.i l.steps)) l.graph.graph);
  edges : l.exact.edges ≡ false → l.counts.edges + length l.steps ≤ l.limits.edges + l.i;
  labels : l.exact.labels ≡ false → l.counts.labels + length l.steps ≤ l.limits.labels + l.i;
}
