use Rattle.affected_nodes.proofs.reading.read_around.Goals as goal

pub returns-in-Parents-clause-has : goal.returns-in-Parents-clause-has
returns-in-Parents-clause-has g c = rw c.in-Parents.is c.read_children.ensures.has

pub returns-in-Parents-clause-cost : goal.returns-in-Parents-clause-cost
returns-in-Parents-clause-cost g c = rw c.in-Parents.is c.read_children.ensures.cost

pub returns-in-Both-clause-has : goal.returns-in-Both-clause-has
returns-in-Both-clause-has g c = rw c.in-Both.is c.read_both.ensures.has

pub returns-in-Both-clause-cost : goal.returns-in-Both-clause-cost
returns-in-Both-clause-cost g c = rw c.in-Both.is c.read_both.ensures.cost
