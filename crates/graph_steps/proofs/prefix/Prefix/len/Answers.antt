use Rattle.std.proofs.Common.{◌∙◌, ap, sym, length}
use Rattle.std.proofs.lemmas.List.{length-take-le}
use Rattle.graph_steps.proofs.prefix.Prefix.len.Goals as goal

pub returns : goal.returns
returns c = sym (length-take-le c.self.inside.past c.self.inside.change.now c.self.invariant) ∙ ap length c.self.view_is
