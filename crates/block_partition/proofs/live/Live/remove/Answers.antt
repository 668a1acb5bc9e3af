use Rattle.std.proofs.Common.{◌≡◌, arith, length}
use Rattle.std.proofs.lemmas.List.{get_or_read}
use Rattle.block_partition.proofs.NumberSets.{number_within, place_is, last_within, places_removed, has_removed}
use Rattle.block_partition.proofs.live.Live.remove.Goals as goal

pub index-place-requires : goal.index-place-requires
index-place-requires c =
    let s = c.self.inside in
    let within = number_within s.numbers.items s.places.items c.args.n c.self.invariant (rw (← c.self.view_is) at c.requires) in
    omega (arith, within)

pub index_mut-requires : goal.index_mut-requires
index_mut-requires c =
    let s = c.self.inside in
    let has = rw (← c.self.view_is) at c.requires in
    let len : c.len.result ≡ length s.numbers.items = omega arith in
    let within = last_within s.numbers.items s.places.items c.args.n c.len.result c.index-last.result.now c.self.invariant has len c.index-last.ensures in
    omega (arith, within)

pub swap_remove-requires : goal.swap_remove-requires
swap_remove-requires c =
    let s = c.self.inside in
    let has = rw (← c.self.view_is) at c.requires in
    let in_places = number_within s.numbers.items s.places.items c.args.n c.self.invariant has in
    let place = get_or_read s.places.items _ _ in_places c.index-place.ensures 0 in
    let within = (place_is s.numbers.items s.places.items c.args.n c.index-place.result.now c.self.invariant has place).0 in
    omega (arith, within)

pub invariant_of-self : goal.invariant_of-self
invariant_of-self c =
    let s = c.self.inside in
    let has = rw (← c.self.view_is) at c.requires in
    let in_places = number_within s.numbers.items s.places.items c.args.n c.self.invariant has in
    let place = get_or_read s.places.items _ _ in_places c.index-place.ensures 0 in
    let len : c.len.result ≡ length s.numbers.items = omega arith in
    places_removed s.numbers.items c.swap_remove.new.self.items s.places.items c.args.n c.index-place.result.now c.len.result c.index-last.result.now _ c.self.invariant has place
    len c.index-last.ensures c.swap_remove.ensures.value c.swap_remove.ensures.items

pub returns-clause-numbers : goal.returns-clause-numbers
returns-clause-numbers c =
    let s = c.self.inside in
    let held = rw (← c.self.view_is) at c.requires in
    let in_places = number_within s.numbers.items s.places.items c.args.n c.self.invariant held in
    let place = get_or_read s.places.items _ _ in_places c.index-place.ensures 0 in
    rw (← c.self.view_is)
    (has_removed s.numbers.items c.swap_remove.new.self.items s.places.items c.args.n c.index-place.result.now _ c.self.invariant held place c.swap_remove.ensures.value c.swap_remove.ensures.items)
