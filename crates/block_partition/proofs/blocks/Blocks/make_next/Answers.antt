use Rattle.std.proofs.Common.{◌∙◌, ◌-◌, sym, ap, arith}
use Rattle.block_partition.specs.LabelledPartitions.{put}
use Rattle.block_partition.proofs.Growth.{put_next}
use Rattle.block_partition.proofs.FreedNumbers.{least_is_next, gaps_next, passed_next}
use Rattle.block_partition.proofs.KeepsSound.{sound_next, count_full}
use Rattle.block_partition.proofs.blocks.Blocks.make_next.Goals as goal

pub push_reserved-requires : goal.push_reserved-requires
push_reserved-requires c =
    let s = c.self.inside in
    let full = count_full s.block s.next s.prev s.first s.labels.items _ s.sizes.items _ s.freed s.live s.nodes_reserved s.blocks_reserved c.args.b c.self.invariant (rw (← c.self.view_is) at c.requires.past) (rw (← c.self.view_is) at c.requires.least) in
    let reserved = rw (← c.self.view_is) at c.requires.reserved in
    let fits = c.self.invariant.blocks_fit.labels_fit in
    omega (arith, full, reserved, fits)

pub push_reserved-requires-2 : goal.push_reserved-requires-2
push_reserved-requires-2 c =
    let s = c.self.inside in
    let full = count_full s.block s.next s.prev s.first s.labels.items _ s.sizes.items _ s.freed s.live s.nodes_reserved s.blocks_reserved c.args.b c.self.invariant (rw (← c.self.view_is) at c.requires.past) (rw (← c.self.view_is) at c.requires.least) in
    let reserved = rw (← c.self.view_is) at c.requires.reserved in
    let fits = c.self.invariant.blocks_fit.sizes_fit in
    let same = c.self.invariant.tables.length_sizes in
    omega (arith, full, reserved, fits, same)

pub push_none-requires : goal.push_none-requires
push_none-requires c =
    let s = c.self.inside in
    let full = count_full s.block s.next s.prev s.first s.labels.items _ s.sizes.items _ s.freed s.live s.nodes_reserved s.blocks_reserved c.args.b c.self.invariant (rw (← c.self.view_is) at c.requires.past) (rw (← c.self.view_is) at c.requires.least) in
    let reserved = rw (← c.self.view_is) at c.requires.reserved in
    let fits = c.self.invariant.blocks_fit.first_fits in
    let same = c.self.invariant.tables.length_first in
    omega (arith, full, reserved, fits, same)

pub pass-requires-clause-gaps : goal.pass-requires-clause-gaps
pass-requires-clause-gaps c =
    rw (c.deref.ensures.value, c.push_reserved.ensures.items) (gaps_next c.self.inside.labels.items c.self.inside.freed c.args.label c.self.invariant.tables.gaps)

pub pass-requires-clause-passed : goal.pass-requires-clause-passed
pass-requires-clause-passed c =
    rw (c.deref.ensures.value, c.push_reserved.ensures.items)
    (passed_next c.self.inside.labels.items c.args.b c.args.label (rw (← c.self.view_is) at c.requires.past) (rw (← c.self.view_is) at c.requires.least))

pub pass-requires-clause-few : goal.pass-requires-clause-few
pass-requires-clause-few c =
    let s = c.self.inside in
    let past = rw (← c.self.view_is) at c.requires.past in
    let least = rw (← c.self.view_is) at c.requires.least in
    let full = count_full s.block s.next s.prev s.first s.labels.items _ s.sizes.items _ s.freed s.live s.nodes_reserved s.blocks_reserved c.args.b c.self.invariant past least in
    let next = least_is_next s.labels.items c.args.b past least in
    let reserved = rw (← c.self.view_is) at c.requires.reserved in
    let fits = c.self.invariant.blocks_fit.few in
    omega (arith, full, next, reserved, fits)

pub push-requires-clause-within : goal.push-requires-clause-within
push-requires-clause-within c =
    let s = c.self.inside in
    let past = rw (← c.self.view_is) at c.requires.past in
    let least = rw (← c.self.view_is) at c.requires.least in
    let full = count_full s.block s.next s.prev s.first s.labels.items _ s.sizes.items _ s.freed s.live s.nodes_reserved s.blocks_reserved c.args.b c.self.invariant past least in
    let next = least_is_next s.labels.items c.args.b past least in
    let reserved = rw (← c.self.view_is) at c.requires.reserved in
    let fits = c.self.invariant.blocks_fit.places_fit in
    omega (arith, full, next, reserved, fits)

pub invariant_of-self : goal.invariant_of-self
invariant_of-self c =
    let s = c.self.inside in
    let full = count_full s.block s.next s.prev s.first s.labels.items _ s.sizes.items _ s.freed s.live s.nodes_reserved s.blocks_reserved c.args.b c.self.invariant (rw (← c.self.view_is) at c.requires.past) (rw (← c.self.view_is) at c.requires.least) in
    let next = least_is_next s.labels.items c.args.b (rw (← c.self.view_is) at c.requires.past) (rw (← c.self.view_is) at c.requires.least) in
    let gaps = rw (c.deref.ensures.value, c.push_reserved.ensures.items) at c.pass.ensures.gaps in
    rw (c.push.ensures, c.push_none.ensures, c.push_reserved.ensures.items, c.push_reserved.ensures.capacity, c.push_reserved-2.ensures.items, c.push_reserved-2.ensures.capacity)
    (sound_next s.block s.next s.prev s.first s.labels.items _ s.sizes.items _ s.freed c.pass.new.self s.live s.nodes_reserved s.blocks_reserved c.args.b c.args.label
    c.self.invariant (rw (← c.self.view_is) at c.requires.reserved) full next gaps c.pass.ensures.reserved)

pub returns : goal.returns
returns c =
    let s = c.self.inside in
    let next = least_is_next s.labels.items c.args.b (rw (← c.self.view_is) at c.requires.past) (rw (← c.self.view_is) at c.requires.least) in
    let labels = c.push_reserved.ensures.items ∙ sym (put_next s.labels.items c.args.label) ∙ ap (λ b. put s.labels.items b c.args.label) (sym next) in
    rw (← c.self.view_is)
    (λ i. record { block_of = s.block.places; labels = labels i; reserved = record { nodes = s.nodes_reserved; blocks = s.blocks_reserved - 1 } })
