use Rattle.graph_update.proofs.DroppedEdges.{loses_child, fewer_edges}
use Rattle.graph_update.proofs.staging.drop_children.Goals as goal

pub children-smaller : goal.children-smaller
children-smaller g c = fewer_edges c.args.node c.in-Some.child c.children.graph c.remove_edge.new.self c.in-Some.ensures.child c.remove_edge.ensures

pub children-preserved : goal.children-preserved
children-preserved g c = loses_child c.args.node c.in-Some.child c.args.graph.now c.children.graph c.remove_edge.new.self c.children.invariant c.remove_edge.ensures
