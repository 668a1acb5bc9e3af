use Rattle.std.proofs.Common.{ap, Err, ◌∙◌}
use Rattle.std.proofs.lemmas.Result.{IfOk-weaker}
use Rattle.pathindex_core.specs.Engines.{by_meaning, graph_in, kept_in}
use Rattle.index_saving.proofs.SavedFileLaws.{still_open, saves_view, saves_none}
use Rattle.index_saving.proofs.saving.view_lines.Goals as goal

pub view_there-requires-clause-open : goal.view_there-requires-clause-open
view_there-requires-clause-open g c = still_open (by_meaning g.B.PathIndex.meaning c.args.engine.now) (by_meaning g.B.PathIndex.meaning c.ready.new.self) c.requires.open c.ready.ensures.asked

pub returns-in-Ok-clause-text : goal.returns-in-Ok-clause-text
returns-in-Ok-clause-text g c = IfOk-weaker c.view_there.result _ _ (λ t v. saves_view (by_meaning g.B.PathIndex.meaning c.args.engine.now) (by_meaning g.B.PathIndex.meaning c.ready.new.self) c.args.via t c.ready.ensures.asked v) c.view_there.ensures

pub returns-in-Err-NoIndex-clause-text : goal.returns-in-Err-NoIndex-clause-text
returns-in-Err-NoIndex-clause-text g c =
    saves_none (graph_in c.args.engine.now.opened) (kept_in (by_meaning g.B.PathIndex.meaning c.args.engine.now)) c.args.via _ (c.in-Err-NoIndex.ensures.readied.no_index.0 (ap Err c.in-Err-NoIndex.field-0-is)) (c.from_string.ensures ∙ c.new.ensures.bytes)
