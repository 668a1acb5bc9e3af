use Rattle.std.proofs.Common.{◌∙◌}
use Rattle.graph_steps.proofs.StepLinks.{link_there}
use Rattle.graph_steps.proofs.links.link_at.Goals as goal

pub returns : goal.returns
returns c =
    c.next_of.ensures
    ∙ link_there c.args.steps.now c.args.links.now c.args.i c.args.n c.index-steps-i.result (record { first = 0; second = 0 }) c.requires.steps c.requires.links c.index-steps-i.is
