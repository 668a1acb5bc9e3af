use Rattle.picture_run.specs.SettingsValues.{settings_value}
use Rattle.picture_run.proofs.Drawings.{shows_asked, whole_asked}
use Rattle.picture_run.proofs.drawing.show_graph.Goals as goal

pub returns-in-Ok : goal.returns-in-Ok
returns-in-Ok g c =
    shows_asked (settings_value c.args.settings.now) c.args.graph.now.graph c.args.names.now c.in-Ok.summary _ _ _
    (whole_asked c.args.settings.now.via c.args.graph.now.graph c.in-Ok.summary c.requires.whole (record { lone = c.in-Ok.ensures.lone; supports = c.in-Ok.ensures.supports }))
    c.show_summary.ensures
