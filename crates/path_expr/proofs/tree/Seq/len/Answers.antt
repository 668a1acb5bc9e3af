use Rattle.std.proofs.Common.{arith}
use Rattle.path_expr.specs.ExprTrees.{item_of}
use Rattle.path_expr.proofs.PartLists.{separators_len}
use Rattle.path_expr.proofs.tree.Seq.len.Goals as goal

pub returns : goal.returns
returns c =
    let n = separators_len (item_of c.args.self.now.first) c.args.self.now.rest.items in
    let l = c.len.ensures in
    omega (arith, n, l)
