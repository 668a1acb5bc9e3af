use Rattle.std.proofs.Common.{◌∙◌, ap, List}
use Rattle.graph_steps.specs.StepLists.{steps_of}
use Rattle.graph_steps.specs.declared.changes.Step.{Step as Asked}
use Rattle.graph_steps.proofs.PrefixSteps.{all_taken}
use Rattle.graph_effects.specs.StepEffects.{gone_with}
use Rattle.graph_effects.proofs.GoneNodes.{gone_next}
use Rattle.graph_effects.proofs.nodes.gone_with.Goals as goal

pub loop-i-preserved : goal.loop-i-preserved
loop-i-preserved c =
    gone_next c.args.graph.now.graph c.args.steps.now c.loop-i.i c.index-steps-i.result c.loop-i.nodes.items c.note_gone.new.nodes.items c.loop-i-test.true c.index-steps-i.is
    c.loop-i.invariant c.in_ok-note_gone.ensures

pub returns : goal.returns
returns c = c.loop-i.invariant ∙ ap (λ (ss : List Asked). gone_with c.args.graph.now.graph (steps_of ss)) (all_taken c.args.steps.now c.loop-i.i c.loop-i-test.false)
