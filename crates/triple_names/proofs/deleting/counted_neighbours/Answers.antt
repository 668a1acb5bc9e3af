use Rattle.std.proofs.Common.{◌||◌, ◌&&◌, ◌∙◌}
use Rattle.triple_names.proofs.NeighbourLaws.{only_by_lists}
use Rattle.triple_names.proofs.deleting.counted_neighbours.Goals as goal

pub returns : goal.returns
returns g c =
    c.either.ensures
    ∙ (λ i. c.is_number.ensures i || (c.are_all-children.ensures i && c.are_all-parents.ensures i))
    ∙ only_by_lists c.args.graph.now.graph c.args.u c.args.other c.children.result.now c.parents.result.now c.children.ensures.children c.parents.ensures.parents
