use Rattle.bisim_levels.proofs.LabelledNodes.{parents_neighbours, children_neighbours}
use Rattle.block_splitting.proofs.reaching.opposite_neighbours.Goals as goal

pub returns-in-Parents : goal.returns-in-Parents
returns-in-Parents c = rw c.in-Parents.is (children_neighbours c.args.view.now c.requires.graph c.args.q _ c.children.ensures)

pub returns-in-Children : goal.returns-in-Children
returns-in-Children c = rw c.in-Children.is (parents_neighbours c.args.view.now c.requires.graph c.args.q _ c.parents.ensures)
