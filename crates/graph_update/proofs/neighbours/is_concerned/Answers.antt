use Rattle.graph_update.proofs.neighbours.is_concerned.Goals as goal

pub returns : goal.returns
returns c = c.concerned_from.ensures
