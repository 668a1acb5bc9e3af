use Rattle.std.proofs.Common.{◌≡◌, ◌++◌, take}
use Rattle.std.specs.Prelude.{string_bytes}
use Rattle.path_expr.specs.ExprTrees.{item_of, seq_of, seq_from, expr_from}
use Rattle.path_query.specs.PathTexts.{expr_text, seq_text}
use Rattle.path_query.proofs.writing.+write.Given as goal

abbrev pub invariant-write_seq-loop-j : goal.invariant-write_seq-loop-j
invariant-write_seq-loop-j l = string_bytes l.out ≡ string_bytes l.fn.out ++ seq_text (seq_from (item_of l.seq.first) (take l.j l.seq.rest.items))

abbrev pub invariant-write_expr-loop-j : goal.invariant-write_expr-loop-j
invariant-write_expr-loop-j l = string_bytes l.out ≡ string_bytes l.fn.out ++ expr_text (expr_from (seq_of l.expr-inside.first) (take l.j l.expr-inside.more.items))
