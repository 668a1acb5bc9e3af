use Rattle.std.proofs.Common.{sym, ap, ◌∙◌}
use Rattle.std.proofs.lemmas.Result.{on_ok_weaker}
use Rattle.graph_spec.specs.Graphs.{is_live}
use Rattle.pathindex_core.specs.Engines.{by_meaning}
use Rattle.script_interpreter.specs.EngineStates.{state_in}
use Rattle.script_interpreter.proofs.WalkCalls.{dead_obeyed}
use Rattle.script_interpreter.proofs.interpreter.explain.Goals as goal

pub returns-then-is_live-clause-ok : goal.returns-then-is_live-clause-ok
returns-then-is_live-clause-ok g c n =
    on_ok_weaker c.show_walk.result (λ f. f (state_in (by_meaning g.B.PathIndex.meaning c.args.engine.now) n) (sym c.graph-graph.ensures)) c.show_walk.ensures.ok

pub returns-else-is_live-clause-ok : goal.returns-else-is_live-clause-ok
returns-else-is_live-clause-ok g c n =
    on_ok_weaker c.refuse.result
    (λ t. dead_obeyed (state_in (by_meaning g.B.PathIndex.meaning c.args.engine.now) n) c.args.node c.args.expr.now _ _
    (ap (λ h. is_live h c.args.node) (sym c.graph-graph.ensures) ∙ sym c.if-is_live.ensures.live) t) c.refuse.ensures.ok
