use Rattle.coarsest_partition.proofs.IndexBlocks.{fits_with}
use Rattle.coarsest_partition.proofs.both.full_bisimulation_both_ways.Goals as goal

pub returns-clause-fits : goal.returns-clause-fits
returns-clause-fits c =
    let settled = c.in_ok-settle_both_ways.ensures in
    fits_with _ _ settled.graph settled.agrees.partition (settled.labelled c.in_ok-blocks.ensures.labelled) (settled.inhabited c.in_ok-blocks.ensures.inhabited)
