use Rattle.std.proofs.Common.{◌≡◌, ◌<◌, ◌+◌, ◌*◌, length}
use Rattle.path_spec.specs.Tokens.{onto, seq_onto, EndsSeq, EndsItem}
use Rattle.path_expr.specs.ExprTrees.{item_of, seq_of, seq_from, expr_from}
use Rattle.path_query.specs.PathTokens.{seen}
use Rattle.path_query.proofs.grammar.+read.Given as goal

abbrev pub decreases-read_atom : goal.decreases-read_atom
decreases-read_atom l = 4 * length l.left.now

abbrev pub decreases-read_item : goal.decreases-read_item
decreases-read_item l = 4 * length l.left.now + 1

abbrev pub decreases-read_seq : goal.decreases-read_seq
decreases-read_seq l = 4 * length l.left.now + 2

abbrev pub decreases-read_expr : goal.decreases-read_expr
decreases-read_expr l = 4 * length l.left.now + 3

abbrev pub invariant-read_seq-steps : goal.invariant-read_seq-steps
invariant-read_seq-steps l = record {
  so_far : seen l.left ≡ seq_onto (seq_from (item_of l.first) l.rest.items) (seen l.behind);
  ends : EndsItem (seen l.behind);
  shorter : length l.behind < length l.left;
}

abbrev pub decreases-read_seq-steps : goal.decreases-read_seq-steps
decreases-read_seq-steps l = length l.behind

abbrev pub invariant-read_expr-alternatives : goal.invariant-read_expr-alternatives
invariant-read_expr-alternatives l = record {
  so_far : seen l.left ≡ onto (expr_from (seq_of l.first) l.more.items) (seen l.behind);
  ends : EndsSeq (seen l.behind);
  shorter : length l.behind < length l.left;
}

abbrev pub decreases-read_expr-alternatives : goal.decreases-read_expr-alternatives
decreases-read_expr-alternatives l = length l.behind
