use Rattle.std.proofs.Common.{ap, ◌++◌}
use Rattle.graph_update.specs.ShownNeighbours.{kept_at}
use Rattle.graph_update.proofs.NamedParts.{new_next}
use Rattle.graph_update.proofs.neighbours.Neighbours.shown.Goals as goal

pub returns : goal.returns
returns c =
    ap (λ ms. kept_at c.args.side c.args.change.now c.args.node c.args.nodes.now ++ ms)
    (new_next c.args.side c.args.change.now c.args.node 0 c.next_naming.result c.next_naming.ensures)
