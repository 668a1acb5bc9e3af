use Rattle.block_partition.proofs.KeepsSound.{sound_none}
use Rattle.block_partition.proofs.blocks.Blocks.new.Goals as goal

pub invariant_of-result : goal.invariant_of-result
invariant_of-result c =
    sound_none c.new.result c.new-2.result c.new-3.result c.new-4.result c.new-5.result.items _ c.new-6.result.items _ c.new-7.result c.new-8.result
    c.new.ensures c.new-2.ensures c.new-3.ensures c.new-4.ensures c.new-5.ensures.items c.new-6.ensures.items c.new-7.ensures.low c.new-7.ensures.full c.new-8.ensures
