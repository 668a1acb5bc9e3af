use Rattle.std.proofs.Common.{◌≡◌}
use Rattle.path_spec.specs.Trimmed.{from_required}
use Rattle.path_expr.specs.ExprTrees.{seq_of}
use Rattle.path_expr.specs.TreeParts.{without_first}
use Rattle.path_expr.proofs.trimming.first_required.Given as goal

abbrev pub invariant-loop-number : goal.invariant-loop-number
invariant-loop-number l = from_required (seq_of l.seq) ≡ from_required (without_first l.number (seq_of l.seq))
