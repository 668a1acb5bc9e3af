use Rattle.std.proofs.Common.{Ok, ap, ◌∙◌}
use Rattle.one_update.proofs.tests.check_link.Goals as goal

pub is_parting-requires-clause-new : goal.is_parting-requires-clause-new
is_parting-requires-clause-new g c = c.judge.ensures.new (c.in-Ok-New.is ∙ ap Ok c.in-Ok-New.field-0-is)
