use Rattle.std.proofs.Common.{◌∙◌}
use Rattle.round_refinement.specs.NeighbourSides.{is_neighbour}
use Rattle.round_refinement.proofs.ChangeLaws.{takes_some}
use Rattle.round_refinement.proofs.changes.find_number.Goals as goal

pub returns-clause-number : goal.returns-clause-number
returns-clause-number g c =
    takes_some (is_neighbour c.args.side (g.G.Digraph.edge c.args.g.now)) c.args.parts.now.before.items c.args.parts.now.block.items _ _ _ c.args.n c.args.own _ _ _
    c.in_ok-write_changes.ensures.changes c.in_ok-write_changes.ensures.table (c.deref.ensures.value ∙ c.in_ok-insert.ensures.items) c.in_ok-k.ensures.ok
