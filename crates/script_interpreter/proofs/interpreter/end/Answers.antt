use Rattle.std.proofs.Common.{Some, sym, subst, ◌∙◌}
use Rattle.std.proofs.lemmas.Result.{IfOk-weaker}
use Rattle.script_interpreter.specs.OpenGroups.{IsKeptAs}
use Rattle.script_interpreter.proofs.GroupLemmas.{kept_changed}
use Rattle.script_interpreter.proofs.interpreter.end.Goals as goal

pub returns-clause-ok : goal.returns-clause-ok
returns-clause-ok g c n =
    IfOk-weaker c.make.result _ _
    (λ accepted h group k. kept_changed _ group.steps c.in-Some.open.change _ _ _ _ (subst (IsKeptAs (Some group)) (sym c.take.ensures.value ∙ c.in-Some.is) k).0 h) (c.make.ensures.ok n)
