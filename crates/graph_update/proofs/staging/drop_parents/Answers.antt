use Rattle.graph_update.proofs.DroppedEdges.{loses_parent, fewer_edges, stays_absent}
use Rattle.graph_update.proofs.staging.drop_parents.Goals as goal

pub parents-smaller : goal.parents-smaller
parents-smaller g c = fewer_edges c.in-Some.parent c.args.node c.parents.graph c.remove_edge.new.self c.in-Some.ensures.parent c.remove_edge.ensures

pub parents-preserved : goal.parents-preserved
parents-preserved g c = record {
  left = loses_parent c.args.node c.in-Some.parent c.args.graph.now c.parents.graph c.remove_edge.new.self c.parents.invariant.left c.remove_edge.ensures;
  children = λ n off. stays_absent c.in-Some.parent c.args.node c.args.node n c.parents.graph c.remove_edge.new.self c.remove_edge.ensures (c.parents.invariant.children n off);
}
