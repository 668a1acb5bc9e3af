use Rattle.std.proofs.Common.{◌∙◌, sym}
use Rattle.label_graph.proofs.SoundNodes.{number-is}
use Rattle.label_graph.proofs.graph.Graph.label.Goals as goal

pub returns-clause-number : goal.returns-clause-number
returns-clause-number c =
    rw (← c.self.view_is)
    (number-is c.self.inside.labels c.self.inside.nodes.shown c.self.inside.nodes.nodes c.self.inside.edge_count c.self.inside.node_count c.self.inside.label_numbers.items c.self.inside.pairs c.self.inside.relabel_numbers.items c.self.invariant c.args.n ∙ sym c.label.ensures ∙ c.unwrap.ensures)
