use Rattle.std.proofs.Common.{◌∙◌}
use Rattle.block_partition.proofs.KeepsSound.{sound_retired}
use Rattle.block_partition.proofs.Counts.{the_some}
use Rattle.block_partition.proofs.blocks.Blocks.retire_block.Goals as goal

pub invariant_of-self : goal.invariant_of-self
invariant_of-self c =
    let s = c.self.inside in
    let is_block = the_some s.labels.items c.args.b (rw (← c.self.view_is) at c.requires.block) in
    sound_retired s.block s.next s.prev s.first s.labels.items _ s.sizes.items _ s.freed c.put.new.self s.live c.remove.new.self s.nodes_reserved s.blocks_reserved c.args.b is_block.0
    c.self.invariant is_block.1 (rw (← c.self.view_is) at c.requires.empty) (c.put.ensures.gaps s.labels.items c.self.invariant.tables.gaps) c.put.ensures.reserved
    (record { numbers = c.remove.ensures.numbers; len = c.remove.ensures.len; span = c.remove.ensures.span; capacity = c.remove.ensures.capacity })

pub remove-requires : goal.remove-requires
remove-requires c =
    let s = c.self.inside in
    c.self.invariant.tables.listed c.args.b ∙ rw (← c.self.view_is) at c.requires.block
