use Rattle.std.proofs.Common.{◌≡◌, ◌<◌, ◌∙◌, sym, arith, length, slice_index, vec_len}
use Rattle.std.proofs.lemmas.List.{get_or_read}
use Rattle.block_partition.proofs.Mirrors.{prev_in, next_in, head_in}
use Rattle.block_partition.proofs.Counts.{some_within, size_above}
use Rattle.block_partition.proofs.KeepsSound.{sound_out}
use Rattle.block_partition.proofs.blocks.Blocks.take_out.Goals as goal

pub set_at-requires-clause-within : goal.set_at-requires-clause-within
set_at-requires-clause-within c = rw c.get-before.ensures.place (prev_in _ _ _ _ c.args.n c.self.invariant.mirrored)

pub set_at-requires-2-clause-within : goal.set_at-requires-2-clause-within
set_at-requires-2-clause-within c = rw c.get-after.ensures.place (next_in _ _ _ _ c.args.n c.self.invariant.mirrored)

pub set_at-requires-3-clause-within : goal.set_at-requires-3-clause-within
set_at-requires-3-clause-within c =
    let has = sym c.get.ensures.place ∙ c.in-Some.is in
    let h = some_within c.self.inside.labels.items c.in-Some.own (c.self.invariant.counted.live c.args.n c.in-Some.own has) in
    let same = c.self.invariant.tables.length_first in
    rw c.head_of.ensures (head_in c.self.inside.first.places c.in-Some.own c.get-before.result (omega (arith, h, same)))

pub index_mut-requires : goal.index_mut-requires
index_mut-requires c =
    let has = sym c.get.ensures.place ∙ c.in-Some.is in
    let h = some_within c.self.inside.labels.items c.in-Some.own (c.self.invariant.counted.live c.args.n c.in-Some.own has) in
    let same = c.self.invariant.tables.length_sizes in
    let len : vec_len c.self.inside.sizes ≡ length c.self.inside.sizes.items = omega arith in
    omega (arith, h, same, len)

pub overflow_sub-index_mut : goal.overflow_sub-index_mut
overflow_sub-index_mut c =
    let s = c.self.inside in
    let has = sym c.get.ensures.place ∙ c.in-Some.is in
    let above = size_above s.block.places s.labels.items s.sizes.items (length s.live.numbers) c.args.n c.in-Some.own c.self.invariant.counted has in
    let h = some_within s.labels.items c.in-Some.own (c.self.invariant.counted.live c.args.n c.in-Some.own has) in
    let same = c.self.invariant.tables.length_sizes in
    let in_sizes : c.in-Some.own < length s.sizes.items = omega (arith, h, same) in
    let read = get_or_read s.sizes.items _ _ in_sizes c.index_mut.ensures.value 0 in
    omega (arith, above, read)

pub invariant_of-self : goal.invariant_of-self
invariant_of-self c =
    let s = c.self.inside in
    let has = sym c.get.ensures.place ∙ c.in-Some.is in
    let h = some_within s.labels.items c.in-Some.own (c.self.invariant.counted.live c.args.n c.in-Some.own has) in
    let same = c.self.invariant.tables.length_sizes in
    let in_sizes : c.in-Some.own < length s.sizes.items = omega (arith, h, same) in
    let read : c.index_mut.result.now ≡ slice_index s.sizes.items c.in-Some.own = get_or_read s.sizes.items _ _ in_sizes c.index_mut.ensures.value 0 in
    rw (c.set.ensures, c.set-2.ensures, c.set-3.ensures, c.set_at.ensures, c.set_at-2.ensures, c.set_at-3.ensures, c.head_of.ensures, c.get-before.ensures.place, c.get-after.ensures.place, read)
    (sound_out s.block s.next s.prev s.first s.labels.items _ s.sizes.items _ s.freed s.live s.nodes_reserved s.blocks_reserved c.args.n c.in-Some.own c.self.invariant has)
