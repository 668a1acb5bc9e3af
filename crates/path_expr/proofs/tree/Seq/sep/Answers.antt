use Rattle.std.proofs.Common.{arith}
use Rattle.path_expr.specs.ExprTrees.{item_of}
use Rattle.path_expr.proofs.PartLists.{separators_len, separator_there}
use Rattle.path_expr.proofs.tree.Seq.sep.Goals as goal

pub index-requires : goal.index-requires
index-requires c = let n = separators_len (item_of c.args.self.now.first) c.args.self.now.rest.items in let r = c.requires in omega (arith, n, r)

pub returns : goal.returns
returns c =
    let n = separators_len (item_of c.args.self.now.first) c.args.self.now.rest.items in
    let r = c.requires in
    separator_there (item_of c.args.self.now.first) c.args.self.now.rest.items c.args.j c.index.result.now (omega (arith, n, r)) c.index.ensures
