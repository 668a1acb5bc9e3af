use Rattle.std.proofs.Common.{◌∙◌}
use Rattle.extent_report.proofs.ListedSummaries.{listed_extents}
use Rattle.extent_report.proofs.extents.extents_text.Goals as goal

pub returns-clause-listed : goal.returns-clause-listed
returns-clause-listed c = λ g r h seen. c.in_ok-text.ensures ∙ listed_extents g c.args.summary.now r c.args.labels.now.texts h seen
