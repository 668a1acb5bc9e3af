use Rattle.std.proofs.Common.{◌∙◌, ap, Ok}
use Rattle.graph_update.proofs.tests.shown_labels.Goals as goal

pub new-after-requires : goal.new-after-requires
new-after-requires g c = record { new = c.judge.ensures.new (c.in-Ok-New.is ∙ ap Ok c.in-Ok-New.field-0-is) }
