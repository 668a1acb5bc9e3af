use Rattle.std.proofs.Common.{◌∙◌, sym, ap, length}
use Rattle.std.proofs.lemmas.List.{length-map}
use Rattle.graph_steps.specs.StepLists.{step_of}
use Rattle.graph_effects.proofs.places.step_count.Goals as goal

pub returns : goal.returns
returns c = sym (length-map c.steps.result.now step_of) ∙ ap length c.steps.ensures
