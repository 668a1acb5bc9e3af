use Rattle.coarsest_partition.proofs.IndexBlocks.{fits_with}
use Rattle.coarsest_partition.proofs.rounds.full_bisimulation.Goals as goal

pub returns-clause-fits : goal.returns-clause-fits
returns-clause-fits c =
    fits_with _ _ c.created-known.ensures.graph c.in_ok-blocks.ensures.agrees.partition c.in_ok-blocks.ensures.labelled c.in_ok-blocks.ensures.inhabited
