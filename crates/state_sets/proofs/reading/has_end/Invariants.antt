use Rattle.std.proofs.Common.{◌≡◌, ℕ, Some, take, IsTrue}
use Rattle.graph_spec.specs.Members.{has}
use Rattle.path_automaton.specs.Programs.{state_at}
use Rattle.path_automaton.specs.declared.state.State.TheVariants.{End}
use Rattle.state_sets.proofs.reading.has_end.Given as goal

abbrev pub invariant-loop-i : goal.invariant-loop-i
invariant-loop-i l = (s : ℕ) → IsTrue (has (take l.i l.states) s) → state_at l.program s ≡ Some End → ⊥
