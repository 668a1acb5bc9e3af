use Rattle.std.proofs.Common.{◌≡◌, ℕ, false, take}
use Rattle.change_spec.specs.Named.{is_dropped}
use Rattle.graph_steps.specs.StepLists.{steps_of}
use Rattle.graph_update.proofs.pending.any_drops.Given as goal

abbrev pub invariant-loop-i : goal.invariant-loop-i
invariant-loop-i l = l.drops ≡ false → (n : ℕ) → is_dropped (steps_of (take l.i l.steps)) n ≡ false
