use Rattle.std.proofs.Common.{sym, subst}
use Rattle.round_refinement.specs.Active.{AreMoves}
use Rattle.round_refinement.proofs.changes.part_side.Goals as goal

pub number_all-requires-clause-near : goal.number_all-requires-clause-near
number_all-requires-clause-near g c =
    c.in_ok-find_near.ensures c.args.parts.now.before.items c.args.parts.now.block.items
    (subst (AreMoves c.args.parts.now.before.items c.args.parts.now.block.items) (sym c.deref.ensures.value) c.requires.moves)
