use Rattle.std.proofs.Common.{◌∙◌, ap, arith, take}
use Rattle.graph_steps.proofs.NamedParts.{counted}
use Rattle.graph_steps.proofs.prefix.Prefix.steps.Goals as goal

pub steps_before-requires : goal.steps_before-requires
steps_before-requires c =
    let within = c.self.invariant in
    let len = counted c.steps.result.now c.self.inside.change.now c.steps.ensures in
    omega (arith, within, len)

pub returns : goal.returns
returns c = c.steps_before.ensures ∙ ap (take c.self.inside.past) c.steps.ensures ∙ c.self.view_is
