use Rattle.std.proofs.Common.{◌-◌, sym}
use Rattle.block_partition.proofs.Growth.{put_within}
use Rattle.block_partition.proofs.blocks.Blocks.make_again.Goals as goal

pub returns : goal.returns
returns c =
    let s = c.self.inside in
    let labels = sym (put_within s.labels.items c.args.b c.args.label (rw (← c.self.view_is) at c.requires.within)) in
    rw (← c.self.view_is)
    (λ i. record { block_of = s.block.places; labels = labels i; reserved = record { nodes = s.nodes_reserved; blocks = s.blocks_reserved - 1 } })
