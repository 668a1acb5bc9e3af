use Rattle.std.proofs.Common.{◌≡◌, ◌<◌, arith, length, slice_index}
use Rattle.std.proofs.lemmas.List.{get_or_read}
use Rattle.block_partition.proofs.Mirrors.{first_in}
use Rattle.block_partition.proofs.Counts.{some_within, size_within}
use Rattle.block_partition.proofs.Appended.{in_longer, sound_appended}
use Rattle.block_partition.proofs.blocks.Blocks.append_member.Goals as goal

pub set_at-requires-clause-within : goal.set_at-requires-clause-within
set_at-requires-clause-within c =
    rw (c.get-after.ensures.place, c.push.ensures) (in_longer _ _ _ (first_in _ _ _ _ c.args.b c.self.invariant.mirrored))

pub overflow_add-index_mut : goal.overflow_add-index_mut
overflow_add-index_mut c =
    let s = c.self.inside in
    let h = some_within s.labels.items c.args.b (rw (← c.self.view_is) at c.requires.block) in
    let same = c.self.invariant.tables.length_sizes in
    let in_sizes : c.args.b < length s.sizes.items = omega (arith, h, same) in
    let read = get_or_read s.sizes.items _ _ in_sizes c.index_mut.ensures.value 0 in
    let most = size_within s.block.places s.labels.items s.sizes.items (length s.live.numbers) c.args.b c.self.invariant.counted in
    let few = c.self.invariant.nodes_fit.few in
    omega (arith, read, most, few)

pub invariant_of-self : goal.invariant_of-self
invariant_of-self c =
    let s = c.self.inside in
    let block = rw (← c.self.view_is) at c.requires.block in
    let h = some_within s.labels.items c.args.b block in
    let same = c.self.invariant.tables.length_sizes in
    let in_sizes : c.args.b < length s.sizes.items = omega (arith, h, same) in
    let read : c.index_mut.result.now ≡ slice_index s.sizes.items c.args.b = get_or_read s.sizes.items _ _ in_sizes c.index_mut.ensures.value 0 in
    rw (c.push-3.ensures, c.push-2.ensures, c.set.ensures, c.set_at.ensures, c.push.ensures, c.len-node.ensures, c.get-after.ensures.place, read)
    (sound_appended s.block s.next s.prev s.first s.labels.items _ s.sizes.items _ s.freed s.live s.nodes_reserved s.blocks_reserved c.args.b c.self.invariant
    (rw (← c.self.view_is) at c.requires.reserved) block)
