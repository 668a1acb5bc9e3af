use Rattle.std.proofs.Common.{◌≤◌, ◌∙◌, sym, subst, arith, length, take}
use Rattle.std.proofs.lemmas.List.{length-take-le}
use Rattle.change_spec.specs.Steps.{after}
use Rattle.change_spec.specs.Places.{CanMakeAll}
use Rattle.graph_steps.specs.StepLists.{step_of}
use Rattle.graph_steps.specs.Counted.{AreCounts, StepComes}
use Rattle.graph_steps.specs.declared.changes.Step.{Step as Asked}
use Rattle.graph_steps.proofs.PrefixSteps.{the_one_at}
use Rattle.graph_steps.proofs.NamedParts.{counted, prefix_taken}
use Rattle.graph_steps.proofs.judging.judge_at.Goals as goal

pub prefix-requires : goal.prefix-requires
prefix-requires c =
    let len = counted c.args.steps.now c.args.change.now c.requires.same in
    let below = c.requires.place in
    omega (arith, len, below)

pub judge_step-requires-clause-few : goal.judge_step-requires-clause-few
judge_step-requires-clause-few c =
    let ss = c.args.steps.now in
    let i = c.args.i in
    let below = c.requires.place in
    let within : i ≤ length ss = omega (arith, below) in
    let taken = length-take-le i ss within in
    let same = counted (take i ss) c.prefix.result (prefix_taken ss c.args.change.now i c.requires.same ∙ sym c.prefix.ensures) in
    let few = c.requires.few in
    omega (arith, taken, same, below, few)

pub judge_step-requires-clause-can : goal.judge_step-requires-clause-can
judge_step-requires-clause-can c =
    subst (λ k. CanMakeAll k c.args.graph.now.graph) (prefix_taken c.args.steps.now c.args.change.now c.args.i c.requires.same ∙ sym c.prefix.ensures) c.requires.can

pub judge_step-requires-clause-counts : goal.judge_step-requires-clause-counts
judge_step-requires-clause-counts c =
    subst (λ k. AreCounts c.args.exact c.args.counts (after k c.args.graph.now.graph))
    (prefix_taken c.args.steps.now c.args.change.now c.args.i c.requires.same ∙ sym c.prefix.ensures) c.requires.counts

pub returns : goal.returns
returns c = λ s at.
    let ss = c.args.steps.now in
    let i = c.args.i in
    let g = c.args.graph.now.graph in
    let same = prefix_taken ss c.args.change.now i c.requires.same ∙ sym c.prefix.ensures in
    let it = the_one_at ss i c.index-steps-i.result s c.index-steps-i.is at in
    subst (λ k. StepComes c.args.exact c.args.counts (step_of s) (after k g) c.args.limits.now c.judge_step.result) (sym same)
    (subst (λ (t : Asked). StepComes c.args.exact c.args.counts (step_of t) (after c.prefix.result g) c.args.limits.now c.judge_step.result) it c.judge_step.ensures)
