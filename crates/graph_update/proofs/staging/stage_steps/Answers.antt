use Rattle.std.proofs.Common.{◌∙◌, ◌++◌, ◌∷◌, [], ap, sym, subst, arith, take}
use Rattle.change_spec.specs.Steps.{after}
use Rattle.change_spec.specs.Places.{CanMake, CanMakeAll}
use Rattle.graph_steps.specs.StepLists.{step_of, steps_of}
use Rattle.graph_steps.proofs.PrefixSteps.{can_prefix, can_at, more_at}
use Rattle.graph_steps.proofs.NamedParts.{counted, prefix_taken}
use Rattle.graph_update.specs.StagedChanges.{IsStaged}
use Rattle.graph_update.proofs.staging.stage_steps.Goals as goal

pub prefix-requires : goal.prefix-requires
prefix-requires c =
    let len = counted c.args.steps.now c.args.change.now c.requires.same in
    let below = c.loop-i-test.true in
    omega (arith, len, below)

pub stage_step-requires-clause-prefix : goal.stage_step-requires-clause-prefix
stage_step-requires-clause-prefix c =
    let here = prefix_taken c.args.steps.now c.args.change.now c.loop-i.i c.requires.same ∙ sym c.prefix.ensures in
    subst (λ k. CanMakeAll k c.loop-i.graph.graph) here
    (subst (CanMakeAll (steps_of (take c.loop-i.i c.args.steps.now))) (sym c.loop-i.invariant.graph)
    (can_prefix c.args.steps.now c.loop-i.i c.args.graph.now.graph c.requires.can))

pub stage_step-requires-clause-can : goal.stage_step-requires-clause-can
stage_step-requires-clause-can c =
    let here = prefix_taken c.args.steps.now c.args.change.now c.loop-i.i c.requires.same ∙ sym c.prefix.ensures in
    subst (λ k. CanMake (step_of c.index-steps-i.result) (after k c.loop-i.graph.graph)) here
    (subst (λ g. CanMake (step_of c.index-steps-i.result) (after (steps_of (take c.loop-i.i c.args.steps.now)) g)) (sym c.loop-i.invariant.graph)
    (can_at c.args.steps.now c.loop-i.i c.index-steps-i.result c.args.graph.now.graph c.loop-i-test.true c.index-steps-i.is c.requires.can))

pub stage_step-requires-clause-staged : goal.stage_step-requires-clause-staged
stage_step-requires-clause-staged c =
    let here = prefix_taken c.args.steps.now c.args.change.now c.loop-i.i c.requires.same ∙ sym c.prefix.ensures in
    subst (λ k. IsStaged k c.loop-i.graph c.loop-i.plans.items) here c.loop-i.invariant.staged

pub loop-i-preserved : goal.loop-i-preserved
loop-i-preserved c =
    let ss = c.args.steps.now in
    let i = c.loop-i.i in
    let s = c.index-steps-i.result in
    let here = c.prefix.ensures ∙ sym (prefix_taken ss c.args.change.now i c.requires.same) in
    record {
      graph = c.stage_step.ensures.graph ∙ c.loop-i.invariant.graph;
      staged = subst (λ k. IsStaged k c.stage_step.new.graph c.stage_step.new.plans.items)
          (ap (λ k. k ++ step_of s ∷ []) here ∙ sym (more_at ss i s c.loop-i-test.true c.index-steps-i.is)) c.in_ok-stage_step.ensures.staged;
    }
