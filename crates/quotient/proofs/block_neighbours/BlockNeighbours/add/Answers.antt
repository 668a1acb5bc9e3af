use Rattle.std.proofs.Common.{◌<◌, length, ap, arith, sym, subst, map, slice_set, slice_index}
use Rattle.std.proofs.lemmas.List.{length-map}
use Rattle.cell_lists.specs.Segments.{items_in}
use Rattle.quotient.specs.QuotientTables.{KeptLists, UsesOne}
use Rattle.quotient.specs.NeighbourCells.{spare_in}
use Rattle.quotient.proofs.ReservedCapacity.{number_at, uses_one}
use Rattle.quotient.proofs.NeighbourCells.{held-set, lists-pushed}
use Rattle.quotient.proofs.block_neighbours.BlockNeighbours.add.Goals as goal

pub push-requires-clause-reserved : goal.push-requires-clause-reserved
push-requires-clause-reserved c =
    let s = c.self.inside in
    let h : c.args.n < length s.segments.items = omega (arith, c.requires.within, ap (λ (k : KeptLists). length k.lists) c.self.view_is, length-map s.segments.items (items_in s.cells.items)) in
    let spare = subst (λ (k : KeptLists). 0 < slice_index k.reserved c.args.n) (sym c.self.view_is) c.requires.reserved in
    omega (arith, spare, number_at spare_in s.segments.items c.args.n c.index_mut.result.now h c.index_mut.ensures.value)

pub invariant_of-self : goal.invariant_of-self
invariant_of-self c =
    let s = c.self.inside in
    let h : c.args.n < length s.segments.items = omega (arith, c.requires.within, ap (λ (k : KeptLists). length k.lists) c.self.view_is, length-map s.segments.items (items_in s.cells.items)) in
    held-set s.cells.items s.segments.items c.args.n c.index_mut.result.now h c.index_mut.ensures.value c.self.invariant c.push.new.cells.items c.push.new.segment c.push.ensures.writes

pub returns-clause-lists : goal.returns-clause-lists
returns-clause-lists c =
    let s = c.self.inside in
    let h : c.args.n < length s.segments.items = omega (arith, c.requires.within, ap (λ (k : KeptLists). length k.lists) c.self.view_is, length-map s.segments.items (items_in s.cells.items)) in
    rw (← c.self.view_is) (lists-pushed s.cells.items s.segments.items c.args.n c.index_mut.result.now h c.index_mut.ensures.value c.self.invariant c.push.new.cells.items c.push.new.segment c.push.ensures.writes c.args.b c.push.ensures.items)

pub returns-clause-reserved : goal.returns-clause-reserved
returns-clause-reserved c =
    let s = c.self.inside in
    let h : c.args.n < length s.segments.items = omega (arith, c.requires.within, ap (λ (k : KeptLists). length k.lists) c.self.view_is, length-map s.segments.items (items_in s.cells.items)) in
    subst (λ (k : KeptLists). UsesOne c.args.n k.reserved (map spare_in (slice_set s.segments.items c.args.n c.push.new.segment))) c.self.view_is
    (uses_one spare_in s.segments.items c.args.n c.index_mut.result.now c.push.new.segment h c.index_mut.ensures.value (omega (arith, c.push.ensures.capacity, c.push.ensures.len)))
