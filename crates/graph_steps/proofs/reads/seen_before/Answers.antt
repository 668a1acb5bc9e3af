use Rattle.std.proofs.Common.{◌∙◌, ap}
use Rattle.std.specs.Prelude.{is_some, bytes_eq}
use Rattle.graph_steps.proofs.GrownCounts.{is_some-position}
use Rattle.graph_steps.proofs.reads.seen_before.Goals as goal

pub returns : goal.returns
returns c = c.is_some.ensures ∙ ap is_some c.find.ensures.place ∙ is_some-position (bytes_eq c.args.text.now) c.args.labels.now.texts
