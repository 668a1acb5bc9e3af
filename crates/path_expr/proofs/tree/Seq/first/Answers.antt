use Rattle.path_expr.specs.ExprTrees.{item_of}
use Rattle.path_expr.proofs.PartLists.{first_item}
use Rattle.path_expr.proofs.tree.Seq.first.Goals as goal

pub returns : goal.returns
returns c = first_item (item_of c.args.self.now.first) c.args.self.now.rest.items
