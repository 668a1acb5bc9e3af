use Rattle.std.proofs.Common.{ap, sym, ◌∙◌, Some, None}
use Rattle.std.proofs.lemmas.Result.{on_ok_weaker}
use Rattle.std.proofs.Common.{Err}
use Rattle.graph_spec.specs.Graphs.{Graph}
use Rattle.triple_names.specs.TripleChanges.{delete_change}
use Rattle.pathindex_core.specs.Engines.{by_meaning}
use Rattle.script_interpreter.specs.EngineStates.{state_in}
use Rattle.script_interpreter.proofs.TripleCalls.{delete_obeyed, missed_obeyed}
use Rattle.script_interpreter.proofs.changes.delete.Goals as goal

pub returns-in_ok-make-in-Ok-clause-ok : goal.returns-in_ok-make-in-Ok-clause-ok
returns-in_ok-make-in-Ok-clause-ok g c =
    delete_obeyed _ c.args.triple.now c.in-Ok.change _ _ _ _
    (ap (λ (h : Graph). delete_change c.args.names.now.names h c.args.triple.now) (sym c.graph.ensures) ∙ c.in-Ok.ensures.change) (c.in_ok-make-in-Ok.ensures.ok c.args.names.now.names)

pub returns-in-Err-NoNode-clause-ok : goal.returns-in-Err-NoNode-clause-ok
returns-in-Err-NoNode-clause-ok g c =
    on_ok_weaker c.refuse.result
    (λ t. missed_obeyed (state_in (by_meaning g.B.PathIndex.meaning c.args.engine.now) c.args.names.now.names) c.args.triple.now _ _
    (ap (λ (h : Graph). delete_change c.args.names.now.names h c.args.triple.now) (sym c.graph.ensures) ∙ c.in-Err-NoNode.ensures.absent (ap Err c.in-Err-NoNode.field-0-is)) t) c.refuse.ensures.ok
