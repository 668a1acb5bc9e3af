use Rattle.std.proofs.Common.{◌∙◌}
use Rattle.round_refinement.specs.NeighbourSides.{is_neighbour}
use Rattle.round_refinement.proofs.ChangeLaws.{puts_of}
use Rattle.round_refinement.proofs.changes.put_beside.Goals as goal

pub returns : goal.returns
returns g c = puts_of _ (is_neighbour c.args.side (g.G.Digraph.edge c.args.g.now) c.args.q) _ _ _
    (λ n. c.neighbours.ensures.members n ∙ c.across.ensures (g.G.Digraph.edge c.args.g.now) n c.args.q) c.in_ok-put_near.ensures
