use Rattle.std.proofs.Common.{sym, ◌∙◌}
use Rattle.cell_lists.proofs.SearchedPieces.{position-behind, position-nowhere}
use Rattle.cell_lists.proofs.segment.position_of.Goals as goal

pub returns-in_err-at : goal.returns-in_err-at
returns-in_err-at c =
    c.from_residual.ensures
    ∙ position-nowhere c.args.n c.prefix_without-front.result c.args.list.now c.prefix_without-front.ensures.within c.prefix_without-front.ensures.without (sym c.position_by_one.ensures ∙ c.in_err-at.was)

pub returns : goal.returns
returns c =
    position-behind c.args.n c.prefix_without-front.result c.args.list.now c.prefix_without-front.ensures.within c.prefix_without-front.ensures.without c.in_ok-at.at (sym c.position_by_one.ensures ∙ c.in_ok-at.was)
