use Rattle.std.proofs.Common.{ap, length, arith}
use Rattle.path_expr.specs.TreeParts.{alternatives}
use Rattle.path_expr.specs.ExprTrees.{seq_of}
use Rattle.path_expr.proofs.PartLists.{alternatives_len}
use Rattle.path_expr.proofs.tree.Expr.len.Goals as goal

pub returns : goal.returns
returns c =
    let n = alternatives_len (seq_of c.self.inside.first) c.self.inside.more.items in
    let v = ap (λ e. length (alternatives e)) c.self.view_is in
    let l = c.len.ensures in
    omega (arith, n, v, l)
