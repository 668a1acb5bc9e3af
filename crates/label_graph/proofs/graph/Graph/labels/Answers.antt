use Rattle.label_graph.proofs.SoundNodes.{is_graph}
use Rattle.label_graph.proofs.graph.Graph.labels.Goals as goal

pub returns-clause-graph : goal.returns-clause-graph
returns-clause-graph c = rw (← c.self.view_is) (is_graph c.self.inside.labels c.self.inside.nodes.shown c.self.inside.nodes.nodes c.self.inside.edge_count c.self.inside.node_count c.self.inside.label_numbers.items c.self.inside.pairs c.self.inside.relabel_numbers.items c.self.invariant)
