use Rattle.std.proofs.Common.{◌≡◌, ◌∙◌, ap, sym, length, arith}
use Rattle.std.proofs.lemmas.List.{length-map}
use Rattle.graph_steps.specs.StepLists.{step_of}
use Rattle.script_interpreter.proofs.GroupLemmas.{kept_more, kept_enough}
use Rattle.script_interpreter.proofs.group.OpenGroup.keep.Goals as goal

pub returns-in_ok-push-clause-steps : goal.returns-in_ok-push-clause-steps
returns-in_ok-push-clause-steps c steps e =
    let count : length c.args.self.now.change ≡ length c.steps.result.now = sym (ap length c.steps.ensures) ∙ length-map c.steps.result.now step_of in
    let few = c.if-steps-lt-KEPT_STEPS.true in
    c.in_ok-push.ensures.ok ∙ kept_more steps _ (step_of c.args.step) e (omega (arith, count, few))

pub returns-else-steps-lt-KEPT_STEPS-clause-steps : goal.returns-else-steps-lt-KEPT_STEPS-clause-steps
returns-else-steps-lt-KEPT_STEPS-clause-steps c steps e =
    let count : length c.args.self.now.change ≡ length c.steps.result.now = sym (ap length c.steps.ensures) ∙ length-map c.steps.result.now step_of in
    let many = c.if-steps-lt-KEPT_STEPS.false in
    kept_enough steps _ (step_of c.args.step) e (omega (arith, count, many))
