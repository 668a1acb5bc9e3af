use Rattle.graph_update.proofs.DroppedEdges.{loses_both, unused, node_gone}
use Rattle.graph_update.proofs.staging.drop_node.Goals as goal

pub remove_node-requires-clause-unused : goal.remove_node-requires-clause-unused
remove_node-requires-clause-unused g c =
    unused c.drop_parents.new.graph.graph c.args.node (λ n. c.drop_parents.ensures.children n (c.drop_children.ensures.none n)) c.drop_parents.ensures.none

pub returns : goal.returns
returns g c = record {
  dropped = node_gone c.args.node c.args.graph.now c.drop_parents.new.graph c.remove_node.new.self
      (loses_both c.args.node c.args.graph.now c.drop_children.new.graph c.drop_parents.new.graph c.drop_children.ensures.left c.drop_parents.ensures.left)
      (λ n. c.drop_parents.ensures.children n (c.drop_children.ensures.none n)) c.drop_parents.ensures.none c.remove_node.ensures;
}
