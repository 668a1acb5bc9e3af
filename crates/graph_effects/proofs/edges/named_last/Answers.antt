use Rattle.std.proofs.Common.{◌∙◌, ap, sym, drop}
use Rattle.graph_steps.specs.StepLists.{step_of}
use Rattle.graph_effects.specs.StepEffects.{named_last}
use Rattle.graph_effects.proofs.edges.named_last.Goals as goal

pub returns-in-Link : goal.returns-in-Link
returns-in-Link c = c.unless_named.ensures ∙ ap (λ s. named_last (step_of s) (drop c.args.next c.args.change.now)) (sym c.in-Link.is)

pub returns-in-Unlink : goal.returns-in-Unlink
returns-in-Unlink c = c.unless_named-in-Unlink.ensures ∙ ap (λ s. named_last (step_of s) (drop c.args.next c.args.change.now)) (sym c.in-Unlink.is)
