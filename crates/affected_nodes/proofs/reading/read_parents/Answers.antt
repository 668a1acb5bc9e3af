use Rattle.std.proofs.Common.{arith}
use Rattle.graph_spec.specs.Graphs.{has_edge}
use Rattle.graph_spec.specs.Shapes.{shape_of}
use Rattle.graph_spec.proofs.GraphLaws.{is_shape}
use Rattle.graph_update.specs.PendingChanges.{graph_after}
use Rattle.one_spec.proofs.Sums.{few_lists}
use Rattle.affected_nodes.proofs.reading.read_parents.Goals as goal

pub returns-clause-cost : goal.returns-clause-cost
returns-clause-cost g c =
    let after = graph_after c.args.after.now in
    let shape = is_shape after c.created-known.ensures.after in
    let few = few_lists (shape_of after).size (λ u. has_edge after u c.args.n) c.parents.result c.parents.ensures.parents (λ u e. shape.below u (shape.from u c.args.n e)) in
    let cost = c.parents.ensures.cost in
    omega (arith, few, cost)
