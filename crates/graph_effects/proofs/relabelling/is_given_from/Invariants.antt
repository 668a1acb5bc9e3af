use Rattle.std.proofs.Common.{◌≡◌, ◌-◌, length, drop}
use Rattle.std.specs.List.{list_any}
use Rattle.graph_effects.specs.StepEffects.{relabels}
use Rattle.graph_effects.proofs.relabelling.is_given_from.Given as goal

abbrev pub invariant-loop-i : goal.invariant-loop-i
invariant-loop-i l = list_any (relabels l.n) (drop l.i l.change) ≡ list_any (relabels l.n) (drop l.from l.change)

abbrev pub decreases-loop-i : goal.decreases-loop-i
decreases-loop-i l = length l.change - l.i
