use Rattle.std.proofs.Common.{◌≡◌, ap, length, ◌∙◌}
use Rattle.block_partition.specs.Tables.{grown}
use Rattle.block_partition.proofs.KeepsSound.{sound_grown}
use Rattle.block_partition.proofs.blocks.Blocks.grow.Goals as goal

pub invariant_of-self : goal.invariant_of-self
invariant_of-self c =
    let s = c.self.inside in
    let len : c.len.result ≡ length (grown s.block.places c.args.len) = c.len.ensures ∙ ap (λ t. length t.places) c.grow.ensures in
    rw (len, c.len-old.ensures, c.grow.ensures, c.grow-2.ensures, c.grow-3.ensures)
    (sound_grown s.block s.next s.prev s.first s.labels.items _ s.sizes.items _ s.freed s.live s.nodes_reserved s.blocks_reserved c.args.len c.self.invariant (rw (← c.self.view_is) at c.requires))
