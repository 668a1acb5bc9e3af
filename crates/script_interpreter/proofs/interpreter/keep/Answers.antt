use Rattle.std.proofs.Common.{Some, subst, ◌∙◌}
use Rattle.std.proofs.lemmas.Result.{on_ok_weaker}
use Rattle.script_interpreter.specs.OpenGroups.{IsKeptAs}
use Rattle.script_interpreter.proofs.interpreter.keep.Goals as goal

pub returns : goal.returns
returns c = record {
  ok = on_ok_weaker c.keep.result (λ h group k. (let same = subst (IsKeptAs (Some group)) c.in-Some.is k in (h group.steps same.0, c.keep.ensures.line ∙ same.1))) c.keep.ensures.steps;
}
