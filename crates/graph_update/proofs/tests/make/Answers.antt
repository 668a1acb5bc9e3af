use Rattle.std.proofs.Common.{◌∙◌, ap, Ok}
use Rattle.graph_update.proofs.tests.make.Goals as goal

pub stage-requires : goal.stage-requires
stage-requires c = record { new = c.judge.ensures.new (c.in-Ok-New.is ∙ ap Ok c.in-Ok-New.field-0-is) }
