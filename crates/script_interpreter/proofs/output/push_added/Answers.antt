use Rattle.std.proofs.Common.{◌∙◌}
use Rattle.script_interpreter.proofs.TakenLemmas.{extends_err}
use Rattle.script_interpreter.proofs.output.push_added.Goals as goal

pub returns-in_err-push_number-clause-err : goal.returns-in_err-push_number-clause-err
returns-in_err-push_number-clause-err c = extends_err c.from_residual.result _ _ _ (c.in_err-push_number.ensures.err ∙ c.nodes.invariant.written)
