use Rattle.std.proofs.Common.{ℕ, ◌∙◌, Some, get_or}
use Rattle.path_automaton.specs.Programs.{state_at}
use Rattle.state_sets.proofs.Lists.{has_at}
use Rattle.state_sets.proofs.Enlarged.{behind_next, behind_entered}
use Rattle.state_sets.proofs.reading.read_each.Goals as goal

pub read_one-requires-clause-state : goal.read_one-requires-clause-state
read_one-requires-clause-state c = c.requires.from (get_or c.args.from.now c.loop-i.i 0) (has_at c.args.from.now c.loop-i.i c.loop-i-test.true)

pub loop-i-preserved : goal.loop-i-preserved
loop-i-preserved c =
    let at = state_at c.args.program.now in
    let label = λ (n : ℕ). Some c.args.label in
    let from = c.args.from.now in
    let i = c.loop-i.i in
    let was = c.loop-i.invariant in
    let now = c.in_ok-read_one.ensures in
    record {
      size = c.read_one.ensures.size ∙ was.size;
      enlarges = behind_next at label from 0 c.args.states.now.1 c.loop-i.states.1 c.read_one.new.states.1 i c.loop-i-test.true was.enlarges now.enlarges;
      entered = behind_entered at label from 0 c.loop-i.states.1 c.read_one.new.states.1 i c.loop-i-test.true now.enlarges was.entered now.entered;
    }
