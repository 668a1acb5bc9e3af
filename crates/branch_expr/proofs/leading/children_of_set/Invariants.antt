use Rattle.std.proofs.Common.{◌≡◌, ◌-◌, ◌≤◌}
use Rattle.branch_expr.proofs.Steps.{LedFrom}
use Rattle.branch_expr.proofs.leading.children_of_set.Given as goal

abbrev pub invariant-loop-n : goal.invariant-loop-n
invariant-loop-n g l = record {
  within : l.from ≤ l.set.size;
  size : l.image.size ≡ g.G.Digraph.span l.g;
  so_far : LedFrom (g.G.Digraph.edge l.g) l.set.members l.image.members l.from;
}

abbrev pub decreases-loop-n : goal.decreases-loop-n
decreases-loop-n g l = l.set.size - l.from
