use Rattle.std.proofs.Common.{ap, ◌∙◌}
use Rattle.index_file.specs.Readings.{last_via}
use Rattle.index_file.proofs.read_views.ReadViews.last_via.Goals as goal

pub returns : goal.returns
returns c = c.last_via_in.ensures ∙ ap last_via (c.deref.ensures.value ∙ c.self.view_is)
