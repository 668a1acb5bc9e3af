use Rattle.graph_steps.proofs.NamedParts.{mapped_take}
use Rattle.graph_steps.proofs.prefix.steps_before.Goals as goal

pub returns : goal.returns
returns c = mapped_take c.args.past c.args.steps.now
