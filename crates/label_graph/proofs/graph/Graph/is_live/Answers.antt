use Rattle.std.proofs.Common.{◌∙◌, ap, sym}
use Rattle.std.specs.Prelude.{is_some}
use Rattle.label_graph.proofs.SoundNodes.{number-is, is_graph}
use Rattle.label_graph.proofs.graph.Graph.is_live.Goals as goal

pub returns-clause-number : goal.returns-clause-number
returns-clause-number c =
    rw (← c.self.view_is)
    (c.is_some.ensures ∙ ap is_some (c.label.ensures ∙ sym (number-is c.self.inside.labels c.self.inside.nodes.shown c.self.inside.nodes.nodes c.self.inside.edge_count c.self.inside.node_count c.self.inside.label_numbers.items c.self.inside.pairs c.self.inside.relabel_numbers.items c.self.invariant c.args.n)))

pub returns-clause-graph : goal.returns-clause-graph
returns-clause-graph c = rw (← c.self.view_is) (is_graph c.self.inside.labels c.self.inside.nodes.shown c.self.inside.nodes.nodes c.self.inside.edge_count c.self.inside.node_count c.self.inside.label_numbers.items c.self.inside.pairs c.self.inside.relabel_numbers.items c.self.invariant)
