use Rattle.std.proofs.Common.{◌≡◌, ◌<◌, ◌≤◌, ℕ, false}
use Rattle.graph_steps.specs.StepLists.{steps_of}
use Rattle.graph_steps.specs.StepLinks.{names_at}
use Rattle.graph_steps.proofs.links.next_among.Given as goal

abbrev pub invariant-loop-i : goal.invariant-loop-i
invariant-loop-i l = (k : ℕ) → l.from ≤ k → k < l.i → names_at (steps_of l.steps) k l.n ≡ false
