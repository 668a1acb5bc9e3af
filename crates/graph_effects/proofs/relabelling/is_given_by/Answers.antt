use Rattle.graph_steps.specs.StepLists.{step_of}
use Rattle.graph_effects.specs.StepEffects.{relabels}
use Rattle.graph_effects.proofs.NamedPairs.{any_there}
use Rattle.graph_effects.proofs.relabelling.is_given_by.Goals as goal

pub returns : goal.returns
returns c = any_there (relabels c.args.n) c.args.change.now c.args.i (step_of c.step_at.result.now) c.relabels.result c.step_at.ensures c.relabels.ensures
