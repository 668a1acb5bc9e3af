use Rattle.std.proofs.Common.{◌++◌, ◌∙◌, ap, arith}
use Rattle.std.specs.Prelude.{string_bytes}
use Rattle.path_expr.specs.ExprTrees.{item_of, seq_of}
use Rattle.path_query.proofs.Canon.{expr_step, seq_step}
use Rattle.path_query.proofs.writing.+write.Goals as goal

pub write_expr-loop-j-preserved : goal.write_expr-loop-j-preserved
write_expr-loop-j-preserved t c =
    expr_step (string_bytes c.loop-j.out) (string_bytes c.args.out.now) (string_bytes c.push_str.new.self) (string_bytes c.write_seq-in-loop-j.new.out)
    (seq_of c.expr.inside.first) c.expr.inside.more.items c.loop-j.j c.index.result.now (omega arith) c.index.ensures c.loop-j.invariant c.in_ok-push_str.ensures.bytes
    c.in_ok-write_seq-2.ensures

pub write_seq-loop-j-preserved : goal.write_seq-loop-j-preserved
write_seq-loop-j-preserved t c =
    seq_step (string_bytes c.loop-j.out) (string_bytes c.args.out.now) (string_bytes c.push_str.new.self) (string_bytes c.write_item-in-loop-j.new.out)
    (item_of c.args.seq.now.first) c.args.seq.now.rest.items c.loop-j.j c.index-step.result.now (omega arith) c.index-step.ensures c.loop-j.invariant (c.in_ok-push_str.ensures.bytes ∙ ap (λ x. string_bytes c.loop-j.out ++ x) c.sep_str.ensures)
    c.in_ok-write_item-2.ensures
