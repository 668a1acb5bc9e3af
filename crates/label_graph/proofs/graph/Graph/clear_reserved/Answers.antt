use Rattle.std.proofs.Common.{refl, []}
use Rattle.label_graph.proofs.KeepsSound.{sound-cleared}
use Rattle.label_graph.proofs.Additions.{sound-as}
use Rattle.label_graph.proofs.graph.Graph.clear_reserved.Goals as goal

pub invariant_of-self : goal.invariant_of-self
invariant_of-self c =
    let s = c.self.inside in
    sound-as (record { texts = s.labels.texts; ahead = [] }) c.clear.new.self s.nodes.shown s.nodes.shown s.nodes.nodes s.edge_count s.node_count [] c.clear-2.new.self.items [] c.clear-3.new.self [] c.clear-4.new.self.items
    c.clear.ensures refl c.clear-2.ensures.items c.clear-3.ensures c.clear-4.ensures.items
    (sound-cleared s.labels s.nodes.shown s.nodes.nodes s.edge_count s.node_count s.label_numbers.items s.pairs s.relabel_numbers.items c.self.invariant)
