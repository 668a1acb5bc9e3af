use Rattle.std.proofs.Common.{◌∙◌, sym, ap}
use Rattle.change_spec.specs.EdgesAfter.{edge_after}
use Rattle.change_spec.proofs.ShownNeighbours.{edge_all}
use Rattle.graph_steps.proofs.reads.has_edge.Goals as goal

pub returns : goal.returns
returns c =
    c.edge_after.ensures ∙ ap (edge_after c.args.prefix.now c.args.u c.args.v) c.edge_before.ensures
    ∙ sym (edge_all c.args.prefix.now c.args.graph.now.graph c.args.u c.args.v)
