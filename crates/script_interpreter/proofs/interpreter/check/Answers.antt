use Rattle.std.proofs.Common.{sym, ◌∙◌, true≢false}
use Rattle.std.proofs.lemmas.Result.{on_ok_weaker}
use Rattle.pathindex_core.specs.Engines.{by_meaning}
use Rattle.script_interpreter.specs.EngineStates.{state_in}
use Rattle.script_interpreter.proofs.WalkCalls.{yes_obeyed, no_obeyed}
use Rattle.script_interpreter.proofs.interpreter.check.Goals as goal

pub returns-then-right-clause-ok : goal.returns-then-right-clause-ok
returns-then-right-clause-ok g c n =
    on_ok_weaker c.push_word.result
    (λ p. yes_obeyed (state_in (by_meaning g.B.PathIndex.meaning c.args.engine.now) n) _ c.args.walk.now c.args.expr.now _ _ (sym c.graph.ensures) (c.in_ok-right.ensures.0 c.if-right.true) p) c.push_word.ensures.ok

pub returns-else-right-clause-ok : goal.returns-else-right-clause-ok
returns-else-right-clause-ok g c n =
    on_ok_weaker c.push_word-else-right.result
    (λ p. no_obeyed (state_in (by_meaning g.B.PathIndex.meaning c.args.engine.now) n) _ c.args.walk.now c.args.expr.now _ _ (sym c.graph.ensures) (λ h. true≢false (sym (c.in_ok-right.ensures.1 h) ∙ c.if-right.false)) p) c.push_word-else-right.ensures.ok
