use Rattle.std.proofs.Common.{sym, true≢false}
use Rattle.graph_spec.specs.Shapes.{shape_of}
use Rattle.script_interpreter.proofs.WalkCalls.{shows_last, shows_none, none_last}
use Rattle.script_interpreter.proofs.interpreter.shows_last.Goals as goal

pub returns-in_ok-right-in-Some : goal.returns-in_ok-right-in-Some
returns-in_ok-right-in-Some c =
    shows_last (shape_of c.args.graph.now.graph) c.args.expr.now c.args.walk.now c.in-Some.last.now c.in_ok-right-in-Some.right
    (rw c.nodes-nodes.ensures at c.in-Some.ensures.value) (rw c.nodes-nodes.ensures at c.in_ok-right-in-Some.ensures)

pub returns-in-None : goal.returns-in-None
returns-in-None c = (
  λ t. absurd (true≢false (sym t)),
  λ x. absurd (shows_none (shape_of c.args.graph.now.graph) c.args.expr.now c.args.walk.now (none_last c.args.walk.now (rw c.nodes-nodes.ensures at c.in-None.ensures.value)) x),
)
