use Rattle.block_partition.proofs.NumberSets.{no_places}
use Rattle.block_partition.proofs.live.Live.new.Goals as goal

pub invariant_of-result : goal.invariant_of-result
invariant_of-result c = no_places c.new.result.items c.new-2.result.items c.new.ensures.items
