use Rattle.std.proofs.Common.{◌≡◌, ℕ, ◌<◌, Some}
use Rattle.graph_spec.specs.Members.{at}
use Rattle.round_refinement.proofs.levels.span_of.Given as goal

abbrev pub invariant-loop-key : goal.invariant-loop-key
invariant-loop-key l = (m b : ℕ) → m < l.key-index → at l.keys m ≡ Some b → b < l.span
