use Rattle.std.proofs.Common.{subst}
use Rattle.std.proofs.lemmas.Result.{on_ok_weaker}
use Rattle.std.specs.Io.KnownBytes.{Appends}
use Rattle.px_base.specs.Files.{AppendsPrefix}
use Rattle.graph_spec.specs.Graphs.{IsGraph}
use Rattle.graph_spec.proofs.GraphLaws.{is_shape}
use Rattle.index_file.specs.WrittenFiles.{head_text}
use Rattle.pathindex_core.specs.Engines.{by_meaning, graph_in, kept_in}
use Rattle.script_interpreter.proofs.ReachedLemmas.{err_fact}
use Rattle.script_interpreter.proofs.PieceLaws.{parts_wrote, parts_part, head_part}
use Rattle.script_interpreter.proofs.saving.write_file.Goals as goal

pub returns-in-Ok-clause-all : goal.returns-in-Ok-clause-all
returns-in-Ok-clause-all g c =
    let head = subst (λ h. Appends (g.K.Sink.written c.args.sink.now) (g.K.Sink.written c.write_head.new.sink) (head_text h c.args.k c.args.count)) c.graph-2.ensures c.in-Ok.ensures.all in
    on_ok_weaker c.write_views.result (λ w. parts_wrote (graph_in c.args.engine.now.opened) (kept_in (by_meaning g.B.PathIndex.meaning c.args.engine.now)) c.args.k c.args.count _ _ _ head w) c.write_views.ensures.all

pub returns-in-Ok-clause-part : goal.returns-in-Ok-clause-part
returns-in-Ok-clause-part g c =
    let head = subst (λ h. Appends (g.K.Sink.written c.args.sink.now) (g.K.Sink.written c.write_head.new.sink) (head_text h c.args.k c.args.count)) c.graph-2.ensures c.in-Ok.ensures.all in
    err_fact c.write_views.result _ _ c.write_views.ensures.part (λ w. parts_part (graph_in c.args.engine.now.opened) (kept_in (by_meaning g.B.PathIndex.meaning c.args.engine.now)) c.args.k c.args.count _ _ _ head w)

pub returns-in-Err-clause-part : goal.returns-in-Err-clause-part
returns-in-Err-clause-part g c =
    head_part (graph_in c.args.engine.now.opened) (kept_in (by_meaning g.B.PathIndex.meaning c.args.engine.now)) c.args.k c.args.count _ _ (is_shape _ (subst IsGraph c.graph.ensures c.created-known.ensures.graph))
    (subst (λ h. AppendsPrefix (g.K.Sink.written c.args.sink.now) (g.K.Sink.written c.write_head.new.sink) (head_text h c.args.k c.args.count)) c.graph-2.ensures c.in-Err.ensures.part)
