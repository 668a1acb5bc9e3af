use Rattle.label_graph.proofs.KeepsSound.{sound-empty}
use Rattle.label_graph.proofs.graph.Graph.new.Goals as goal

pub invariant_of-result : goal.invariant_of-result
invariant_of-result c =
    sound-empty c.in_ok-labels.labels c.new-2.result c.new-3.result.items c.new-4.result c.new-5.result.items c.in_ok-labels.ensures c.new-2.ensures c.new-3.ensures.items c.new-4.ensures c.new-5.ensures.items
