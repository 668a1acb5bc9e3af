use Rattle.bisim_levels.proofs.LabelledNodes.{parents_neighbours, children_neighbours}
use Rattle.bisim_levels.proofs.neighbour_lists.neighbours.Goals as goal

pub returns-in-Parents : goal.returns-in-Parents
returns-in-Parents c = rw c.in-Parents.is (parents_neighbours c.args.view.now c.requires.graph c.args.n _ c.parents.ensures)

pub returns-in-Children : goal.returns-in-Children
returns-in-Children c = rw c.in-Children.is (children_neighbours c.args.view.now c.requires.graph c.args.n _ c.children.ensures)
