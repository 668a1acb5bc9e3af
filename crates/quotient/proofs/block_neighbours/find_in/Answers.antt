use Rattle.quotient.proofs.ReservedCapacity.{none_of, some_of}
use Rattle.quotient.proofs.block_neighbours.find_in.Goals as goal

pub returns-clause-at : goal.returns-clause-at
returns-clause-at c = some_of c.args.list.now c.args.b c.place_in.result c.place_in.ensures

pub returns-clause-none : goal.returns-clause-none
returns-clause-none c = none_of c.args.list.now c.args.b c.place_in.result c.place_in.ensures
