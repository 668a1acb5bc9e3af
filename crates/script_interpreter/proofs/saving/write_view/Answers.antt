use Rattle.std.proofs.Common.{subst}
use Rattle.std.proofs.lemmas.Result.{on_ok_weaker}
use Rattle.graph_spec.specs.Graphs.{IsGraph}
use Rattle.graph_spec.proofs.GraphLaws.{is_shape}
use Rattle.pathindex_core.specs.Engines.{by_meaning, graph_in, kept_in}
use Rattle.script_interpreter.proofs.EngineCalls.{open_asked}
use Rattle.script_interpreter.proofs.ReachedLemmas.{err_fact}
use Rattle.script_interpreter.proofs.PieceLaws.{wrote_index, part_index, no_index_yet}
use Rattle.script_interpreter.proofs.saving.write_view.Goals as goal

pub returns-in-Ok-clause-all : goal.returns-in-Ok-clause-all
returns-in-Ok-clause-all g c = on_ok_weaker c.write_text.result (λ w. wrote_index (graph_in c.args.engine.now.opened) (kept_in (by_meaning g.B.PathIndex.meaning c.args.engine.now)) c.args.via _ _ _ c.in-Ok.ensures.text w) c.write_text.ensures.all

pub returns-in-Ok-clause-part : goal.returns-in-Ok-clause-part
returns-in-Ok-clause-part g c = err_fact c.write_text.result _ _ c.write_text.ensures.part (λ w. part_index (graph_in c.args.engine.now.opened) (kept_in (by_meaning g.B.PathIndex.meaning c.args.engine.now)) c.args.via _ _ _ c.in-Ok.ensures.text w)

pub returns-in-Err-clause-part : goal.returns-in-Err-clause-part
returns-in-Err-clause-part g c = no_index_yet (graph_in c.args.engine.now.opened) (kept_in (by_meaning g.B.PathIndex.meaning c.args.engine.now)) c.args.via _ (is_shape _ (subst IsGraph c.graph.ensures c.created-known.ensures.graph))

pub returns-in-Ok-clause-ready : goal.returns-in-Ok-clause-ready
returns-in-Ok-clause-ready g c = open_asked _ _ c.requires.ready c.view_lines.ensures.sound c.view_lines.ensures.asked

pub returns-in-Err-clause-ready : goal.returns-in-Err-clause-ready
returns-in-Err-clause-ready g c = open_asked _ _ c.requires.ready c.view_lines.ensures.sound c.view_lines.ensures.asked
