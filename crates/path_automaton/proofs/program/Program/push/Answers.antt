use Rattle.path_automaton.proofs.Inside.{inside_push}
use Rattle.path_automaton.proofs.program.Program.push.Goals as goal

pub invariant_of-self-2 : goal.invariant_of-self-2
invariant_of-self-2 c = rw c.in_ok-push.ensures.items (inside_push _ _ c.self.invariant (rw (← c.self.view_is) at c.requires))
