use Rattle.std.proofs.Common.{◌<◌, length, ap, arith, subst, sym}
use Rattle.std.proofs.lemmas.List.{length-map}
use Rattle.label_graph.specs.NodeRows.{node_in}
use Rattle.label_graph.specs.Nodes.{HasReserved}
use Rattle.label_graph.proofs.RowLemmas.{child-within}
use Rattle.label_graph.proofs.RowEdges.{child-reserved, second-within, parent-reserved, held-twice, children-pushed, parents-pushed, labels-same, reserved-used}
use Rattle.label_graph.proofs.node.Nodes.push_edge.Goals as goal

pub push-requires-clause-within : goal.push-requires-clause-within
push-requires-clause-within c =
    let s = c.self.inside in
    let from : c.args.u < length s.rows.items = omega (arith, c.requires.from, ap (λ l. length l.nodes) c.self.view_is, length-map s.rows.items (node_in s.cells.items)) in
    child-within s.cells.items s.rows.items c.args.u c.index_mut.result.now from c.index_mut.ensures.value c.self.invariant.held

pub push-requires-clause-reserved : goal.push-requires-clause-reserved
push-requires-clause-reserved c =
    let s = c.self.inside in
    let from : c.args.u < length s.rows.items = omega (arith, c.requires.from, ap (λ l. length l.nodes) c.self.view_is, length-map s.rows.items (node_in s.cells.items)) in
    omega (arith, child-reserved s.cells.items s.rows.items c.args.u c.index_mut.result.now from c.index_mut.ensures.value c.self.invariant c.args.v 1 1 (subst (λ l. HasReserved l.nodes c.args.u c.args.v 1 1) (sym c.self.view_is) c.requires.reserved))

pub push-requires-2-clause-within : goal.push-requires-2-clause-within
push-requires-2-clause-within c =
    let s = c.self.inside in
    let from : c.args.u < length s.rows.items = omega (arith, c.requires.from, ap (λ l. length l.nodes) c.self.view_is, length-map s.rows.items (node_in s.cells.items)) in
    let onto : c.args.v < length s.rows.items = omega (arith, c.requires.onto, ap (λ l. length l.nodes) c.self.view_is, length-map s.rows.items (node_in s.cells.items)) in
    second-within s.cells.items s.rows.items c.args.u c.index_mut.result.now from c.index_mut.ensures.value c.self.invariant c.push.new.cells.items c.push.new.segment c.push.ensures.writes c.args.v c.index_mut-2.result.now onto c.index_mut-2.ensures.value

pub push-requires-2-clause-reserved : goal.push-requires-2-clause-reserved
push-requires-2-clause-reserved c =
    let s = c.self.inside in
    let from : c.args.u < length s.rows.items = omega (arith, c.requires.from, ap (λ l. length l.nodes) c.self.view_is, length-map s.rows.items (node_in s.cells.items)) in
    let onto : c.args.v < length s.rows.items = omega (arith, c.requires.onto, ap (λ l. length l.nodes) c.self.view_is, length-map s.rows.items (node_in s.cells.items)) in
    omega (arith, parent-reserved s.cells.items s.rows.items c.args.u c.index_mut.result.now from c.index_mut.ensures.value c.self.invariant c.push.new.cells.items c.push.new.segment c.push.ensures.writes c.args.v c.index_mut-2.result.now onto c.index_mut-2.ensures.value 1 1 (subst (λ l. HasReserved l.nodes c.args.u c.args.v 1 1) (sym c.self.view_is) c.requires.reserved))

pub invariant_of-self : goal.invariant_of-self
invariant_of-self c =
    let s = c.self.inside in
    let from : c.args.u < length s.rows.items = omega (arith, c.requires.from, ap (λ l. length l.nodes) c.self.view_is, length-map s.rows.items (node_in s.cells.items)) in
    let onto : c.args.v < length s.rows.items = omega (arith, c.requires.onto, ap (λ l. length l.nodes) c.self.view_is, length-map s.rows.items (node_in s.cells.items)) in
    held-twice s.cells.items s.rows.items c.args.u c.index_mut.result.now from c.index_mut.ensures.value c.self.invariant c.push.new.cells.items c.push.new.segment c.push.ensures.writes c.args.v c.index_mut-2.result.now onto c.index_mut-2.ensures.value c.push-2.new.cells.items c.push-2.new.segment c.push-2.ensures.writes

pub returns-clause-children : goal.returns-clause-children
returns-clause-children c w =
    let s = c.self.inside in
    let from : c.args.u < length s.rows.items = omega (arith, c.requires.from, ap (λ l. length l.nodes) c.self.view_is, length-map s.rows.items (node_in s.cells.items)) in
    let onto : c.args.v < length s.rows.items = omega (arith, c.requires.onto, ap (λ l. length l.nodes) c.self.view_is, length-map s.rows.items (node_in s.cells.items)) in
    rw (← c.self.view_is) (children-pushed s.cells.items s.rows.items c.args.u c.index_mut.result.now from c.index_mut.ensures.value c.self.invariant c.push.new.cells.items c.push.new.segment c.push.ensures.writes c.args.v c.index_mut-2.result.now onto c.index_mut-2.ensures.value c.push-2.new.cells.items c.push-2.new.segment c.push-2.ensures.writes c.push.ensures.items c.push-2.ensures.items w)

pub returns-clause-parents : goal.returns-clause-parents
returns-clause-parents c w =
    let s = c.self.inside in
    let from : c.args.u < length s.rows.items = omega (arith, c.requires.from, ap (λ l. length l.nodes) c.self.view_is, length-map s.rows.items (node_in s.cells.items)) in
    let onto : c.args.v < length s.rows.items = omega (arith, c.requires.onto, ap (λ l. length l.nodes) c.self.view_is, length-map s.rows.items (node_in s.cells.items)) in
    rw (← c.self.view_is) (parents-pushed s.cells.items s.rows.items c.args.u c.index_mut.result.now from c.index_mut.ensures.value c.self.invariant c.push.new.cells.items c.push.new.segment c.push.ensures.writes c.args.v c.index_mut-2.result.now onto c.index_mut-2.ensures.value c.push-2.new.cells.items c.push-2.new.segment c.push-2.ensures.writes c.push.ensures.items c.push-2.ensures.items w)

pub returns-clause-labels : goal.returns-clause-labels
returns-clause-labels c =
    let s = c.self.inside in
    let from : c.args.u < length s.rows.items = omega (arith, c.requires.from, ap (λ l. length l.nodes) c.self.view_is, length-map s.rows.items (node_in s.cells.items)) in
    let onto : c.args.v < length s.rows.items = omega (arith, c.requires.onto, ap (λ l. length l.nodes) c.self.view_is, length-map s.rows.items (node_in s.cells.items)) in
    rw (← c.self.view_is) (labels-same s.cells.items s.rows.items c.args.u c.index_mut.result.now from c.index_mut.ensures.value c.self.invariant c.push.new.cells.items c.push.new.segment c.push.ensures.writes c.args.v c.index_mut-2.result.now onto c.index_mut-2.ensures.value c.push-2.new.cells.items c.push-2.new.segment c.push-2.ensures.writes)

pub returns-clause-reserved : goal.returns-clause-reserved
returns-clause-reserved c =
    let s = c.self.inside in
    let from : c.args.u < length s.rows.items = omega (arith, c.requires.from, ap (λ l. length l.nodes) c.self.view_is, length-map s.rows.items (node_in s.cells.items)) in
    let onto : c.args.v < length s.rows.items = omega (arith, c.requires.onto, ap (λ l. length l.nodes) c.self.view_is, length-map s.rows.items (node_in s.cells.items)) in
    rw (← c.self.view_is) (reserved-used s.cells.items s.rows.items c.args.u c.index_mut.result.now from c.index_mut.ensures.value c.self.invariant c.push.new.cells.items c.push.new.segment c.push.ensures.writes c.args.v c.index_mut-2.result.now onto c.index_mut-2.ensures.value c.push-2.new.cells.items c.push-2.new.segment c.push-2.ensures.writes c.push.ensures.capacity c.push.ensures.len c.push-2.ensures.capacity c.push-2.ensures.len)
