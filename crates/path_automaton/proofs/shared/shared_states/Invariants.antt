use Rattle.std.proofs.Common.{◌≡◌, length}
use Rattle.path_automaton.proofs.shared.shared_states.Given as goal

abbrev pub invariant-loop-state : goal.invariant-loop-state
invariant-loop-state l = record {
  entered : l.entries.entered.size ≡ length l.program;
  shared : l.entries.shared.size ≡ length l.program;
}
