use Rattle.std.proofs.Common.{subst, sym, ap, ◌∙◌}
use Rattle.std.proofs.lemmas.Result.{IfOk-weaker}
use Rattle.graph_spec.specs.Shapes.{shape_of}
use Rattle.bisim_spec.specs.Partitions.{IsPartition}
use Rattle.bisim_spec.specs.Tests.{together}
use Rattle.quotient.specs.Quotients.{view_of}
use Rattle.index_file.specs.WrittenFiles.{view_text}
use Rattle.pathindex_core.specs.Engines.{by_meaning}
use Rattle.index_saving.proofs.SavedFileLaws.{is_view_of}
use Rattle.index_saving.proofs.saving.view_there.Goals as goal

pub view_text-requires-clause-live : goal.view_text-requires-clause-live
view_text-requires-clause-live g c = subst (λ h. IsPartition (shape_of h) (view_of c.in-Some.summary.now).block_of) (sym c.graph.ensures) c.in-Some.ensures.shown.nodes

pub returns : goal.returns
returns g c =
    IfOk-weaker c.view_text.result _ _
    (λ t e. is_view_of (by_meaning g.B.PathIndex.meaning c.args.engine.now) c.args.via (view_of c.in-Some.summary.now) t c.in-Some.ensures.shown
    (e ∙ ap (λ h. view_text (shape_of h) (together (view_of c.in-Some.summary.now).block_of) c.args.via) c.graph.ensures)) c.view_text.ensures.text
