use Rattle.std.proofs.Common.{◌∙◌, sym}
use Rattle.quotient.proofs.Between.{links_listed}
use Rattle.quotient.proofs.EdgeLists.{listed_more, listed_gone}
use Rattle.quotient.proofs.edges.list_node.Goals as goal

pub returns-then-not-is_node : goal.returns-then-not-is_node
returns-then-not-is_node c = listed_gone c.args.view.now c.args.n _ (sym c.is_node.ensures ∙ c.if-not-is_node.true) c.requires.graph c.requires.listed

pub returns : goal.returns
returns c = listed_more c.args.view.now.edges c.args.n _ _ _ (links_listed c.args.view.now c.args.n _ c.children.ensures c.requires.graph) c.requires.listed c.in_ok-list_children.ensures
