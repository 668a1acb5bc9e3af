use Rattle.std.proofs.Common.{◌∙◌, ap}
use Rattle.change_spec.specs.Named.{is_dropped}
use Rattle.graph_steps.proofs.prefix.Prefix.is_dropped.Goals as goal

pub returns : goal.returns
returns c = c.drops_before.ensures ∙ ap (λ k. is_dropped k c.args.n) c.self.view_is
