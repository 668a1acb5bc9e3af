use Rattle.graph_steps.proofs.NamedParts.{step_there}
use Rattle.graph_steps.proofs.prefix.step_at.Goals as goal

pub returns : goal.returns
returns c = step_there c.args.steps.now c.args.i c.index-steps-i.result c.requires c.index-steps-i.is
