use Rattle.std.proofs.Common.{◌∙◌}
use Rattle.graph_steps.proofs.Mapped.{dropped_map}
use Rattle.graph_steps.proofs.degrees.is_dropped.Goals as goal

pub returns : goal.returns
returns c = c.any_takes.ensures ∙ dropped_map c.args.steps.now c.args.n
