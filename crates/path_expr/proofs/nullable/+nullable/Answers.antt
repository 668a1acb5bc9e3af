use Rattle.std.proofs.Common.{◌∙◌, ◌&&◌, ◌||◌, [], ap, take, arith}
use Rattle.path_spec.specs.Tests.{matches, seq_matches}
use Rattle.path_expr.specs.ExprTrees.{item_of, seq_of, seq_from, expr_from}
use Rattle.path_expr.proofs.NullableLaws.{seq_step, expr_step}
use Rattle.path_expr.proofs.nullable.+nullable.Goals as goal

pub is_nullable-loop-j-preserved : goal.is_nullable-loop-j-preserved
is_nullable-loop-j-preserved t c =
    ap (λ b. b || c.seq_is_nullable-nullable-in-loop-j.result) c.loop-j.invariant
    ∙ ap (λ b. matches (expr_from (seq_of c.expr.inside.first) (take c.loop-j.j c.expr.inside.more.items)) [] || b) c.seq_is_nullable-nullable-in-loop-j.ensures
    ∙ expr_step (seq_of c.expr.inside.first) c.expr.inside.more.items c.loop-j.j c.index.result.now (omega arith) c.index.ensures

pub seq_is_nullable-loop-j-preserved : goal.seq_is_nullable-loop-j-preserved
seq_is_nullable-loop-j-preserved t c =
    ap (λ b. b && c.item_is_nullable-nullable-in-loop-j.result) c.loop-j.invariant
    ∙ ap (λ b. seq_matches (seq_from (item_of c.args.seq.now.first) (take c.loop-j.j c.args.seq.now.rest.items)) [] && b) c.item_is_nullable-nullable-in-loop-j.ensures
    ∙ seq_step (item_of c.args.seq.now.first) c.args.seq.now.rest.items c.loop-j.j c.index.result.now (omega arith) c.index.ensures
