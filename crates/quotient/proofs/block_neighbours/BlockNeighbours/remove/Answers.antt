use Rattle.std.proofs.Common.{◌≡◌, ◌<◌, ◌∙◌, length, ap, arith, sym, subst, map, slice_set, slice_get}
use Rattle.std.specs.Prelude.{Some}
use Rattle.std.proofs.lemmas.List.{length-map}
use Rattle.cell_lists.specs.Segments.{items_in}
use Rattle.quotient.specs.QuotientTables.{KeptLists, UsesOne}
use Rattle.quotient.specs.QuotientNeighbours.{list_at}
use Rattle.quotient.specs.NeighbourCells.{spare_in}
use Rattle.quotient.proofs.ReservedCapacity.{uses_one}
use Rattle.quotient.proofs.NeighbourCells.{list-within, held-set, lists-taken, number-taken, place-within}
use Rattle.quotient.proofs.block_neighbours.BlockNeighbours.remove.Goals as goal

pub take_at-requires-clause-within : goal.take_at-requires-clause-within
take_at-requires-clause-within c =
    let s = c.self.inside in
    let h : c.args.n < length s.segments.items = omega (arith, c.requires.within, ap (λ (k : KeptLists). length k.lists) c.self.view_is, length-map s.segments.items (items_in s.cells.items)) in
    list-within s.cells.items s.segments.items c.args.n c.index_mut.result.now h c.index_mut.ensures.value c.self.invariant

pub take_at-requires-clause-place : goal.take_at-requires-clause-place
take_at-requires-clause-place c =
    let s = c.self.inside in
    let h : c.args.n < length s.segments.items = omega (arith, c.requires.within, ap (λ (k : KeptLists). length k.lists) c.self.view_is, length-map s.segments.items (items_in s.cells.items)) in
    let at = subst (λ (k : KeptLists). slice_get (list_at k.lists c.args.n) c.in-Some.i ≡ Some c.args.b) (sym c.self.view_is) (ap (λ l. slice_get l c.in-Some.i) (sym c.get.ensures) ∙ c.in-Some.ensures.at) in
    place-within s.cells.items s.segments.items c.args.n c.index_mut.result.now h c.index_mut.ensures.value c.self.invariant c.in-Some.i c.args.b at

pub invariant_of-self : goal.invariant_of-self
invariant_of-self c =
    let s = c.self.inside in
    let h : c.args.n < length s.segments.items = omega (arith, c.requires.within, ap (λ (k : KeptLists). length k.lists) c.self.view_is, length-map s.segments.items (items_in s.cells.items)) in
    held-set s.cells.items s.segments.items c.args.n c.index_mut.result.now h c.index_mut.ensures.value c.self.invariant c.take_at.new.cells.items c.take_at.new.segment c.take_at.ensures.writes

pub returns-clause-lists : goal.returns-clause-lists
returns-clause-lists c =
    let s = c.self.inside in
    let h : c.args.n < length s.segments.items = omega (arith, c.requires.within, ap (λ (k : KeptLists). length k.lists) c.self.view_is, length-map s.segments.items (items_in s.cells.items)) in
    rw (← c.self.view_is) (lists-taken s.cells.items s.segments.items c.args.n c.index_mut.result.now h c.index_mut.ensures.value c.self.invariant c.take_at.new.cells.items c.take_at.new.segment c.take_at.ensures.writes)

pub returns-clause-taken : goal.returns-clause-taken
returns-clause-taken c =
    let s = c.self.inside in
    let h : c.args.n < length s.segments.items = omega (arith, c.requires.within, ap (λ (k : KeptLists). length k.lists) c.self.view_is, length-map s.segments.items (items_in s.cells.items)) in
    let at = subst (λ (k : KeptLists). slice_get (list_at k.lists c.args.n) c.in-Some.i ≡ Some c.args.b) (sym c.self.view_is) (ap (λ l. slice_get l c.in-Some.i) (sym c.get.ensures) ∙ c.in-Some.ensures.at) in
    rw (← c.self.view_is) (number-taken s.cells.items s.segments.items c.args.n c.index_mut.result.now h c.index_mut.ensures.value c.self.invariant c.take_at.new.cells.items c.take_at.new.segment c.take_at.ensures.writes c.in-Some.i c.args.b at c.take_at.ensures.items)

pub returns-clause-reserved : goal.returns-clause-reserved
returns-clause-reserved c =
    let s = c.self.inside in
    let h : c.args.n < length s.segments.items = omega (arith, c.requires.within, ap (λ (k : KeptLists). length k.lists) c.self.view_is, length-map s.segments.items (items_in s.cells.items)) in
    subst (λ (k : KeptLists). UsesOne c.args.n k.reserved (map spare_in (slice_set s.segments.items c.args.n c.take_at.new.segment))) c.self.view_is
    (uses_one spare_in s.segments.items c.args.n c.index_mut.result.now c.take_at.new.segment h c.index_mut.ensures.value (omega (arith, c.take_at.ensures.capacity, c.take_at.ensures.len)))
