use Rattle.std.proofs.Common.{◌∙◌, ap, Ok}
use Rattle.test_updates.proofs.changes.show_and_make.Goals as goal

pub new-after-requires : goal.new-after-requires
new-after-requires g c = record { new = c.judge.ensures.new (c.in-Ok-New.is ∙ ap Ok c.in-Ok-New.field-0-is) }
