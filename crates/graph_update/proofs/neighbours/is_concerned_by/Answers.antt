use Rattle.graph_steps.specs.StepLists.{step_of}
use Rattle.graph_update.proofs.NamedParts.{concerned_there}
use Rattle.graph_update.proofs.neighbours.is_concerned_by.Goals as goal

pub returns : goal.returns
returns c = concerned_there c.args.side c.args.change.now c.args.n c.args.m c.args.i (step_of c.step_at.result.now) c.concerns_at.result c.step_at.ensures c.concerns_at.ensures
