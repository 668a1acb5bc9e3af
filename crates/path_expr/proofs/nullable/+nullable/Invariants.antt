use Rattle.std.proofs.Common.{◌≡◌, [], take}
use Rattle.path_spec.specs.Tests.{matches, seq_matches}
use Rattle.path_expr.specs.ExprTrees.{item_of, seq_of, seq_from, expr_from}
use Rattle.path_expr.proofs.nullable.+nullable.Given as goal

abbrev pub invariant-seq_is_nullable-loop-j : goal.invariant-seq_is_nullable-loop-j
invariant-seq_is_nullable-loop-j l = l.nullable ≡ seq_matches (seq_from (item_of l.seq.first) (take l.j l.seq.rest.items)) []

abbrev pub invariant-is_nullable-loop-j : goal.invariant-is_nullable-loop-j
invariant-is_nullable-loop-j l = l.nullable ≡ matches (expr_from (seq_of l.expr-inside.first) (take l.j l.expr-inside.more.items)) []
