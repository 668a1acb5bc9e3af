use Rattle.std.proofs.Common.{◌<◌, ◌+◌, length, ap, arith, subst, sym}
use Rattle.std.proofs.lemmas.List.{length-map}
use Rattle.label_graph.specs.NodeRows.{node_in}
use Rattle.label_graph.specs.Nodes.{HasReserved}
use Rattle.label_graph.proofs.RowLemmas.{child-within}
use Rattle.label_graph.proofs.RowEdges.{held-once, same-first, second-within, held-twice, same-second, edge-reserved, child-reserved, parent-reserved}
use Rattle.label_graph.proofs.node.Nodes.reserve_behind.Goals as goal

pub make_place-requires : goal.make_place-requires
make_place-requires c =
    let s = c.self.inside in
    let from : c.args.u < length s.rows.items = omega (arith, c.requires.from, ap (λ l. length l.nodes) c.self.view_is, length-map s.rows.items (node_in s.cells.items)) in
    child-within s.cells.items s.rows.items c.args.u c.index_mut.result.now from c.index_mut.ensures.value c.self.invariant.held

pub invariant_of-self : goal.invariant_of-self
invariant_of-self c =
    let s = c.self.inside in
    let from : c.args.u < length s.rows.items = omega (arith, c.requires.from, ap (λ l. length l.nodes) c.self.view_is, length-map s.rows.items (node_in s.cells.items)) in
    held-once s.cells.items s.rows.items c.args.u c.index_mut.result.now from c.index_mut.ensures.value c.self.invariant c.make_place.new.cells.items c.make_place.new.segment c.make_place.ensures.writes

pub returns-in_err-make_place-clause-same : goal.returns-in_err-make_place-clause-same
returns-in_err-make_place-clause-same c =
    let s = c.self.inside in
    let from : c.args.u < length s.rows.items = omega (arith, c.requires.from, ap (λ l. length l.nodes) c.self.view_is, length-map s.rows.items (node_in s.cells.items)) in
    rw (← c.self.view_is) (same-first s.cells.items s.rows.items c.args.u c.index_mut.result.now from c.index_mut.ensures.value c.self.invariant c.make_place.new.cells.items c.make_place.new.segment c.make_place.ensures.writes c.make_place.ensures.items c.make_place.ensures.capacity)

pub make_place-requires-2 : goal.make_place-requires-2
make_place-requires-2 c =
    let s = c.self.inside in
    let from : c.args.u < length s.rows.items = omega (arith, c.requires.from, ap (λ l. length l.nodes) c.self.view_is, length-map s.rows.items (node_in s.cells.items)) in
    let onto : c.args.v < length s.rows.items = omega (arith, c.requires.onto, ap (λ l. length l.nodes) c.self.view_is, length-map s.rows.items (node_in s.cells.items)) in
    second-within s.cells.items s.rows.items c.args.u c.index_mut.result.now from c.index_mut.ensures.value c.self.invariant c.make_place.new.cells.items c.make_place.new.segment c.make_place.ensures.writes c.args.v c.index_mut-2.result.now onto c.index_mut-2.ensures.value

pub invariant_of-self-in_err-make_place-2 : goal.invariant_of-self-in_err-make_place-2
invariant_of-self-in_err-make_place-2 c =
    let s = c.self.inside in
    let from : c.args.u < length s.rows.items = omega (arith, c.requires.from, ap (λ l. length l.nodes) c.self.view_is, length-map s.rows.items (node_in s.cells.items)) in
    let onto : c.args.v < length s.rows.items = omega (arith, c.requires.onto, ap (λ l. length l.nodes) c.self.view_is, length-map s.rows.items (node_in s.cells.items)) in
    held-twice s.cells.items s.rows.items c.args.u c.index_mut.result.now from c.index_mut.ensures.value c.self.invariant c.make_place.new.cells.items c.make_place.new.segment c.make_place.ensures.writes c.args.v c.index_mut-2.result.now onto c.index_mut-2.ensures.value c.make_place-2.new.cells.items c.make_place-2.new.segment c.make_place-2.ensures.writes

pub returns-in_err-make_place-2-clause-same : goal.returns-in_err-make_place-2-clause-same
returns-in_err-make_place-2-clause-same c =
    let s = c.self.inside in
    let from : c.args.u < length s.rows.items = omega (arith, c.requires.from, ap (λ l. length l.nodes) c.self.view_is, length-map s.rows.items (node_in s.cells.items)) in
    let onto : c.args.v < length s.rows.items = omega (arith, c.requires.onto, ap (λ l. length l.nodes) c.self.view_is, length-map s.rows.items (node_in s.cells.items)) in
    rw (← c.self.view_is) (same-second s.cells.items s.rows.items c.args.u c.index_mut.result.now from c.index_mut.ensures.value c.self.invariant c.make_place.new.cells.items c.make_place.new.segment c.make_place.ensures.writes c.args.v c.index_mut-2.result.now onto c.index_mut-2.ensures.value c.make_place-2.new.cells.items c.make_place-2.new.segment c.make_place-2.ensures.writes c.make_place.ensures.items c.make_place.ensures.capacity c.make_place-2.ensures.items c.make_place-2.ensures.capacity)

pub invariant_of-self-2 : goal.invariant_of-self-2
invariant_of-self-2 c =
    let s = c.self.inside in
    let from : c.args.u < length s.rows.items = omega (arith, c.requires.from, ap (λ l. length l.nodes) c.self.view_is, length-map s.rows.items (node_in s.cells.items)) in
    let onto : c.args.v < length s.rows.items = omega (arith, c.requires.onto, ap (λ l. length l.nodes) c.self.view_is, length-map s.rows.items (node_in s.cells.items)) in
    held-twice s.cells.items s.rows.items c.args.u c.index_mut.result.now from c.index_mut.ensures.value c.self.invariant c.make_place.new.cells.items c.make_place.new.segment c.make_place.ensures.writes c.args.v c.index_mut-2.result.now onto c.index_mut-2.ensures.value c.make_place-2.new.cells.items c.make_place-2.new.segment c.make_place-2.ensures.writes

pub returns-clause-same : goal.returns-clause-same
returns-clause-same c =
    let s = c.self.inside in
    let from : c.args.u < length s.rows.items = omega (arith, c.requires.from, ap (λ l. length l.nodes) c.self.view_is, length-map s.rows.items (node_in s.cells.items)) in
    let onto : c.args.v < length s.rows.items = omega (arith, c.requires.onto, ap (λ l. length l.nodes) c.self.view_is, length-map s.rows.items (node_in s.cells.items)) in
    rw (← c.self.view_is) (same-second s.cells.items s.rows.items c.args.u c.index_mut.result.now from c.index_mut.ensures.value c.self.invariant c.make_place.new.cells.items c.make_place.new.segment c.make_place.ensures.writes c.args.v c.index_mut-2.result.now onto c.index_mut-2.ensures.value c.make_place-2.new.cells.items c.make_place-2.new.segment c.make_place-2.ensures.writes c.make_place.ensures.items c.make_place.ensures.capacity c.make_place-2.ensures.items c.make_place-2.ensures.capacity)

pub returns-clause-reserved : goal.returns-clause-reserved
returns-clause-reserved c =
    let s = c.self.inside in
    let from : c.args.u < length s.rows.items = omega (arith, c.requires.from, ap (λ l. length l.nodes) c.self.view_is, length-map s.rows.items (node_in s.cells.items)) in
    let onto : c.args.v < length s.rows.items = omega (arith, c.requires.onto, ap (λ l. length l.nodes) c.self.view_is, length-map s.rows.items (node_in s.cells.items)) in
    let fits = subst (λ l. HasReserved l.nodes c.args.u c.args.v c.args.from c.args.onto) (sym c.self.view_is) c.requires.reserved in
    let child = child-reserved s.cells.items s.rows.items c.args.u c.index_mut.result.now from c.index_mut.ensures.value c.self.invariant c.args.v c.args.from c.args.onto fits in
    let parent = parent-reserved s.cells.items s.rows.items c.args.u c.index_mut.result.now from c.index_mut.ensures.value c.self.invariant c.make_place.new.cells.items c.make_place.new.segment c.make_place.ensures.writes c.args.v c.index_mut-2.result.now onto c.index_mut-2.ensures.value c.args.from c.args.onto fits in
    edge-reserved s.cells.items s.rows.items c.args.u c.index_mut.result.now from c.index_mut.ensures.value c.self.invariant c.make_place.new.cells.items c.make_place.new.segment c.make_place.ensures.writes c.args.v c.index_mut-2.result.now onto c.index_mut-2.ensures.value c.make_place-2.new.cells.items c.make_place-2.new.segment c.make_place-2.ensures.writes c.make_place.ensures.items c.make_place.ensures.capacity c.make_place-2.ensures.items c.make_place-2.ensures.capacity (c.args.from + 1) (c.args.onto + 1) (omega (arith, c.in_ok-make_place.ensures.ok child)) (omega (arith, c.in_ok-make_place-2.ensures.ok parent))
