use Rattle.std.proofs.Common.{Ok, ap, ◌∙◌}
use Rattle.test_levels.proofs.kept.prepare.Goals as goal

pub prepare_counted-requires-clause-new : goal.prepare_counted-requires-clause-new
prepare_counted-requires-clause-new g c = c.judge.ensures.new (c.in-Ok-New.is ∙ ap Ok c.in-Ok-New.field-0-is)
