use Rattle.std.proofs.Common.{arith}
use Rattle.graph_spec.specs.Graphs.{has_edge}
use Rattle.graph_spec.specs.Shapes.{shape_of}
use Rattle.graph_spec.proofs.GraphLaws.{is_shape}
use Rattle.graph_update.specs.PendingChanges.{graph_after}
use Rattle.one_spec.proofs.Sums.{few_lists}
use Rattle.affected_nodes.proofs.reading.read_children.Goals as goal

pub returns-clause-cost : goal.returns-clause-cost
returns-clause-cost g c =
    let after = graph_after c.args.after.now in
    let shape = is_shape after c.created-known.ensures.after in
    let few = few_lists (shape_of after).size (has_edge after c.args.n) c.children.result c.children.ensures.children (λ u e. shape.below u (shape.onto c.args.n u e)) in
    let cost = c.children.ensures.cost in
    omega (arith, few, cost)
