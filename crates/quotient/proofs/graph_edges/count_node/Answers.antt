use Rattle.std.proofs.Common.{◌∙◌, sym}
use Rattle.quotient.proofs.Between.{links_listed}
use Rattle.quotient.proofs.EdgeLists.{counted_more, counted_gone, counted_few}
use Rattle.quotient.proofs.graph_edges.count_node.Goals as goal

pub returns-then-not-is_node : goal.returns-then-not-is_node
returns-then-not-is_node c =
    counted_gone c.args.view.now c.args.n _ _ _ (sym c.is_node.ensures ∙ c.if-not-is_node.true) c.requires.graph c.requires.counted

pub count_children-requires : goal.count_children-requires
count_children-requires c = record {
  few =
      counted_few c.args.view.now.edges c.args.n _ _ _ _ (links_listed c.args.view.now c.args.n _ c.children.ensures c.requires.graph) c.requires.few c.requires.counted;
}

pub returns : goal.returns
returns c =
    counted_more c.args.view.now.edges c.args.n _ _ _ _ _ _ (links_listed c.args.view.now c.args.n _ c.children.ensures c.requires.graph) c.requires.counted
    c.in_ok-count_children.ensures
