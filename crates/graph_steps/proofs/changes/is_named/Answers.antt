use Rattle.std.proofs.Common.{◌∙◌}
use Rattle.graph_steps.proofs.Mapped.{named_map}
use Rattle.graph_steps.proofs.changes.is_named.Goals as goal

pub returns : goal.returns
returns c = c.any_names.ensures ∙ named_map c.args.steps.now c.args.n
