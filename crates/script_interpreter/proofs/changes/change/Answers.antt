use Rattle.graph_steps.specs.StepLists.{step_of}
use Rattle.script_interpreter.proofs.EngineCalls.{changed_obeyed}
use Rattle.script_interpreter.proofs.changes.change.Goals as goal

pub returns-in_ok-make-in-Ok-clause-ok : goal.returns-in_ok-make-in-Ok-clause-ok
returns-in_ok-make-in-Ok-clause-ok g c n = changed_obeyed _ (step_of c.args.step) _ _ _ _ (rw c.in-Ok.ensures at (c.in_ok-make-in-Ok.ensures.ok n))
