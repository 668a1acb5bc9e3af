use Rattle.std.proofs.Common.{◌∙◌, sym, ap}
use Rattle.graph_spec.specs.Members.{at}
use Rattle.round_refinement.specs.NeighbourSides.{is_neighbour}
use Rattle.round_refinement.proofs.ChangeLaws.{takes_none}
use Rattle.round_refinement.proofs.changes.number_of.Goals as goal

pub returns-in-None-clause-number : goal.returns-in-None-clause-number
returns-in-None-clause-number g c =
    takes_none (is_neighbour c.args.side (g.G.Digraph.edge c.args.g.now)) c.args.parts.now.before.items c.args.parts.now.block.items _ _ _ _
    (sym (ap (λ l. at l c.args.n) c.deref.ensures.value) ∙ sym c.in-None.ensures)
