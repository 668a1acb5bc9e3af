use Rattle.std.proofs.Common.{◌≡◌, ◌≤◌, ◌-◌, None, drop, length}
use Rattle.std.specs.Prelude.{option_map}
use Rattle.graph_steps.specs.StepLabels.{relabelled}
use Rattle.graph_steps.proofs.NamedParts.{stretch}
use Rattle.graph_steps.proofs.labels.relabelled.Given as goal

abbrev pub invariant-loop-i : goal.invariant-loop-i
invariant-loop-i l = record {
  low : l.from ≤ l.i;
  within : l.i ≤ length l.prefix;
  after : l.from ≤ l.past;
  past : l.past ≤ length l.prefix;
  given : option_map (λ t. t.now) l.given ≡ relabelled (stretch l.prefix l.from l.i) l.n;
  none : relabelled (drop l.past l.prefix) l.n ≡ None;
}

abbrev pub decreases-loop-i : goal.decreases-loop-i
decreases-loop-i l = length l.prefix - l.i
