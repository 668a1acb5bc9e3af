use Rattle.label_graph.proofs.SoundNodes.{child-list, child-links}
use Rattle.label_graph.proofs.graph.Graph.child_list.Goals as goal

pub returns-clause-edges : goal.returns-clause-edges
returns-clause-edges c =
    rw (← c.self.view_is, c.children.ensures) (child-list c.self.inside.labels c.self.inside.nodes.shown c.self.inside.nodes.nodes c.self.inside.edge_count c.self.inside.node_count c.self.inside.label_numbers.items c.self.inside.pairs c.self.inside.relabel_numbers.items c.self.invariant c.args.n)

pub returns-clause-links : goal.returns-clause-links
returns-clause-links c =
    rw (← c.self.view_is, c.children.ensures) (child-links c.self.inside.labels c.self.inside.nodes.shown c.self.inside.nodes.nodes c.self.inside.edge_count c.self.inside.node_count c.self.inside.label_numbers.items c.self.inside.pairs c.self.inside.relabel_numbers.items c.self.invariant c.args.n)
