use Rattle.std.proofs.Common.{◌≡◌, ◌-◌, ◌^◌, length}
use Rattle.path_automaton.specs.Programs.{state_at}
use Rattle.state_sets.proofs.Enlarged.{IsClosing}
use Rattle.state_sets.proofs.reading.close.Given as goal

abbrev pub invariant-states : goal.invariant-states
invariant-states l = record {
  size : l.states.0 ≡ length l.program;
  closing : IsClosing (state_at l.program) l.initial.states.1 l.states.1 l.i;
}

abbrev pub decreases-states : goal.decreases-states
decreases-states l = 2 ^ 64 - l.i
