use Rattle.std.proofs.Common.{◌<◌, ◌∙◌, arith, length}
use Rattle.std.proofs.lemmas.List.{get_or_read}
use Rattle.block_partition.proofs.Counts.{some_within}
use Rattle.block_partition.proofs.blocks.Blocks.member_count.Goals as goal

pub returns : goal.returns
returns c =
    let s = c.self.inside in
    let in_labels = some_within s.labels.items c.args.b (rw (← c.self.view_is) at c.requires.block) in
    let same = c.self.invariant.tables.length_sizes in
    let h : c.args.b < length s.sizes.items = omega arith in
    rw (← c.self.view_is) (get_or_read s.sizes.items _ _ h c.index.ensures 0 ∙ c.self.invariant.counted.sizes_are c.args.b)
