use Rattle.std.proofs.Common.{◌∙◌, sym}
use Rattle.label_graph.proofs.EdgeLists.{has_edge-children}
use Rattle.label_graph.proofs.graph.Graph.has_edge.Goals as goal

pub returns-clause-edge : goal.returns-clause-edge
returns-clause-edge g c =
    rw (← c.self.view_is)
    (c.is_edge.ensures ∙ sym (has_edge-children c.self.inside.nodes.nodes c.args.u c.args.v))
