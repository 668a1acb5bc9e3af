use Rattle.graph_steps.specs.StepLists.{step_of}
use Rattle.graph_effects.specs.StepEffects.{names_pair}
use Rattle.graph_effects.proofs.NamedPairs.{any_there}
use Rattle.graph_effects.proofs.edges.is_named_by.Goals as goal

pub returns : goal.returns
returns c = any_there (names_pair c.args.u c.args.v) c.args.change.now c.args.i (step_of c.step_at.result.now) c.names_pair.result c.step_at.ensures c.names_pair.ensures
