use Rattle.pathindex_core.specs.Engines.{graph_in}
use Rattle.picture_run.specs.SettingsValues.{settings_value}
use Rattle.picture_run.proofs.Drawings.{index_asked, shows_asked}
use Rattle.picture_run.proofs.drawing.show_ready.Goals as goal

pub returns-in-Some : goal.returns-in-Some
returns-in-Some g c =
    let view = c.in-Some.ensures.shown in
    shows_asked (settings_value c.args.settings.now) (graph_in c.args.engine.now.opened) c.args.names.now c.in-Some.summary.now _ _ _
    (index_asked c.args.settings.now.via (graph_in c.args.engine.now.opened) c.in-Some.summary.now view.fits view.nodes) (rw c.graph.ensures at c.show_summary.ensures)
