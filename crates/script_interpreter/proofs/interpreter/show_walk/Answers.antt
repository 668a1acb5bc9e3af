use Rattle.std.proofs.lemmas.Result.{on_ok_weaker}
use Rattle.script_interpreter.proofs.WalkCalls.{walk_obeyed, none_obeyed}
use Rattle.script_interpreter.proofs.interpreter.show_walk.Goals as goal

pub returns-in_ok-text-in-Ok-Some-clause-ok : goal.returns-in_ok-text-in-Ok-Some-clause-ok
returns-in_ok-text-in-Ok-Some-clause-ok g c =
    let nodes = c.in-Ok-Some.walk in
    let text = rw c.nodes.ensures at c.in_ok-text-in-Ok-Some.ensures in
    on_ok_weaker c.push.result
    (λ p. walk_obeyed c.args.graph.now.graph c.args.node c.args.expr.now nodes _ _ (rw c.in-Ok-Some.field-0-is at c.in-Ok-Some.ensures.found) (rw (c.as_bytes.ensures.bytes, text) at p)) c.push.ensures.ok

pub returns-in-Ok-None-clause-ok : goal.returns-in-Ok-None-clause-ok
returns-in-Ok-None-clause-ok g c =
    on_ok_weaker c.push_word.result
    (λ p. none_obeyed c.args.graph.now.graph c.args.node c.args.expr.now _ _ c.requires.live (rw c.in-Ok-None.field-0-is at c.in-Ok-None.ensures.found) p) c.push_word.ensures.ok
