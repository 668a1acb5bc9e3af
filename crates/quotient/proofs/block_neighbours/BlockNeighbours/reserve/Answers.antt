use Rattle.std.proofs.Common.{◌<◌, length, ap, arith, subst, map, slice_set}
use Rattle.std.proofs.lemmas.List.{length-map}
use Rattle.cell_lists.specs.Segments.{items_in}
use Rattle.quotient.specs.QuotientTables.{KeptLists, GivesMore}
use Rattle.quotient.specs.NeighbourCells.{spare_in}
use Rattle.quotient.proofs.ReservedCapacity.{gives_more, written_here}
use Rattle.quotient.proofs.NeighbourCells.{held-set, len-kept, lists-kept}
use Rattle.quotient.proofs.block_neighbours.BlockNeighbours.reserve.Goals as goal

pub invariant_of-self : goal.invariant_of-self
invariant_of-self c =
    let s = c.self.inside in
    let h : c.args.n < length s.segments.items = omega (arith, c.requires, ap (λ (k : KeptLists). length k.lists) c.self.view_is, length-map s.segments.items (items_in s.cells.items)) in
    held-set s.cells.items s.segments.items c.args.n c.index_mut.result.now h c.index_mut.ensures.value c.self.invariant c.make_places.new.cells.items c.make_places.new.segment c.make_places.ensures.writes

pub returns-in_err-make_places-clause-lists : goal.returns-in_err-make_places-clause-lists
returns-in_err-make_places-clause-lists c =
    let s = c.self.inside in
    let h : c.args.n < length s.segments.items = omega (arith, c.requires, ap (λ (k : KeptLists). length k.lists) c.self.view_is, length-map s.segments.items (items_in s.cells.items)) in
    rw (← c.self.view_is) (lists-kept s.cells.items s.segments.items c.args.n c.index_mut.result.now h c.index_mut.ensures.value c.self.invariant c.make_places.new.cells.items c.make_places.new.segment c.make_places.ensures.writes c.make_places.ensures.items)

pub returns-in_err-make_places-clause-reserved : goal.returns-in_err-make_places-clause-reserved
returns-in_err-make_places-clause-reserved c =
    let s = c.self.inside in
    let h : c.args.n < length s.segments.items = omega (arith, c.requires, ap (λ (k : KeptLists). length k.lists) c.self.view_is, length-map s.segments.items (items_in s.cells.items)) in
    let len = len-kept s.cells.items s.segments.items c.args.n c.index_mut.result.now h c.index_mut.ensures.value c.self.invariant c.make_places.new.cells.items c.make_places.new.segment c.make_places.ensures.writes c.make_places.ensures.items in
    subst (λ (k : KeptLists). GivesMore k.reserved (map spare_in (slice_set s.segments.items c.args.n c.make_places.new.segment))) c.self.view_is
    (gives_more spare_in s.segments.items c.args.n c.index_mut.result.now c.make_places.new.segment h c.index_mut.ensures.value (omega (arith, len, c.make_places.ensures.capacity)))

pub invariant_of-self-2 : goal.invariant_of-self-2
invariant_of-self-2 c =
    let s = c.self.inside in
    let h : c.args.n < length s.segments.items = omega (arith, c.requires, ap (λ (k : KeptLists). length k.lists) c.self.view_is, length-map s.segments.items (items_in s.cells.items)) in
    held-set s.cells.items s.segments.items c.args.n c.index_mut.result.now h c.index_mut.ensures.value c.self.invariant c.make_places.new.cells.items c.make_places.new.segment c.make_places.ensures.writes

pub returns-clause-lists : goal.returns-clause-lists
returns-clause-lists c =
    let s = c.self.inside in
    let h : c.args.n < length s.segments.items = omega (arith, c.requires, ap (λ (k : KeptLists). length k.lists) c.self.view_is, length-map s.segments.items (items_in s.cells.items)) in
    rw (← c.self.view_is) (lists-kept s.cells.items s.segments.items c.args.n c.index_mut.result.now h c.index_mut.ensures.value c.self.invariant c.make_places.new.cells.items c.make_places.new.segment c.make_places.ensures.writes c.make_places.ensures.items)

pub returns-clause-reserved : goal.returns-clause-reserved
returns-clause-reserved c =
    let s = c.self.inside in
    let h : c.args.n < length s.segments.items = omega (arith, c.requires, ap (λ (k : KeptLists). length k.lists) c.self.view_is, length-map s.segments.items (items_in s.cells.items)) in
    let len = len-kept s.cells.items s.segments.items c.args.n c.index_mut.result.now h c.index_mut.ensures.value c.self.invariant c.make_places.new.cells.items c.make_places.new.segment c.make_places.ensures.writes c.make_places.ensures.items in
    subst (λ (k : KeptLists). GivesMore k.reserved (map spare_in (slice_set s.segments.items c.args.n c.make_places.new.segment))) c.self.view_is
    (gives_more spare_in s.segments.items c.args.n c.index_mut.result.now c.make_places.new.segment h c.index_mut.ensures.value (omega (arith, len, c.make_places.ensures.capacity)))

pub returns-clause-ok : goal.returns-clause-ok
returns-clause-ok c =
    let s = c.self.inside in
    let h : c.args.n < length s.segments.items = omega (arith, c.requires, ap (λ (k : KeptLists). length k.lists) c.self.view_is, length-map s.segments.items (items_in s.cells.items)) in
    omega (arith, c.in_ok-make_places.ensures.ok, written_here spare_in s.segments.items c.args.n c.make_places.new.segment h)
