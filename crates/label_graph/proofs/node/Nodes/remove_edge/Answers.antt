use Rattle.std.proofs.Common.{◌<◌, length, ap, arith, subst, sym}
use Rattle.std.proofs.lemmas.List.{length-map}
use Rattle.label_graph.specs.NodeRows.{node_in}
use Rattle.std.specs.Prelude.{nat_eq}
use Rattle.std.specs.List.{IsDistinct}
use Rattle.label_graph.specs.Nodes.{children_of, parents_of}
use Rattle.label_graph.proofs.RowLemmas.{child-within}
use Rattle.label_graph.proofs.RowEdges.{child-distinct, second-within, parent-distinct, held-twice, edge-lacking, reserved-kept}
use Rattle.label_graph.proofs.node.Nodes.remove_edge.Goals as goal

pub take_out-requires-clause-within : goal.take_out-requires-clause-within
take_out-requires-clause-within c =
    let s = c.self.inside in
    let from : c.args.u < length s.rows.items = omega (arith, c.requires.from, ap (λ l. length l.nodes) c.self.view_is, length-map s.rows.items (node_in s.cells.items)) in
    child-within s.cells.items s.rows.items c.args.u c.index_mut.result.now from c.index_mut.ensures.value c.self.invariant.held

pub take_out-requires-clause-once : goal.take_out-requires-clause-once
take_out-requires-clause-once c =
    let s = c.self.inside in
    let from : c.args.u < length s.rows.items = omega (arith, c.requires.from, ap (λ l. length l.nodes) c.self.view_is, length-map s.rows.items (node_in s.cells.items)) in
    child-distinct s.cells.items s.rows.items c.args.u c.index_mut.result.now from c.index_mut.ensures.value c.self.invariant (subst (λ l. IsDistinct nat_eq (children_of l.nodes c.args.u)) (sym c.self.view_is) c.requires.children_once)

pub take_out-requires-2-clause-within : goal.take_out-requires-2-clause-within
take_out-requires-2-clause-within c =
    let s = c.self.inside in
    let from : c.args.u < length s.rows.items = omega (arith, c.requires.from, ap (λ l. length l.nodes) c.self.view_is, length-map s.rows.items (node_in s.cells.items)) in
    let onto : c.args.v < length s.rows.items = omega (arith, c.requires.onto, ap (λ l. length l.nodes) c.self.view_is, length-map s.rows.items (node_in s.cells.items)) in
    second-within s.cells.items s.rows.items c.args.u c.index_mut.result.now from c.index_mut.ensures.value c.self.invariant c.take_out.new.cells.items c.take_out.new.segment c.take_out.ensures.writes c.args.v c.index_mut-2.result.now onto c.index_mut-2.ensures.value

pub take_out-requires-2-clause-once : goal.take_out-requires-2-clause-once
take_out-requires-2-clause-once c =
    let s = c.self.inside in
    let from : c.args.u < length s.rows.items = omega (arith, c.requires.from, ap (λ l. length l.nodes) c.self.view_is, length-map s.rows.items (node_in s.cells.items)) in
    let onto : c.args.v < length s.rows.items = omega (arith, c.requires.onto, ap (λ l. length l.nodes) c.self.view_is, length-map s.rows.items (node_in s.cells.items)) in
    parent-distinct s.cells.items s.rows.items c.args.u c.index_mut.result.now from c.index_mut.ensures.value c.self.invariant c.take_out.new.cells.items c.take_out.new.segment c.take_out.ensures.writes c.args.v c.index_mut-2.result.now onto c.index_mut-2.ensures.value (subst (λ l. IsDistinct nat_eq (parents_of l.nodes c.args.v)) (sym c.self.view_is) c.requires.parents_once)

pub invariant_of-self : goal.invariant_of-self
invariant_of-self c =
    let s = c.self.inside in
    let from : c.args.u < length s.rows.items = omega (arith, c.requires.from, ap (λ l. length l.nodes) c.self.view_is, length-map s.rows.items (node_in s.cells.items)) in
    let onto : c.args.v < length s.rows.items = omega (arith, c.requires.onto, ap (λ l. length l.nodes) c.self.view_is, length-map s.rows.items (node_in s.cells.items)) in
    held-twice s.cells.items s.rows.items c.args.u c.index_mut.result.now from c.index_mut.ensures.value c.self.invariant c.take_out.new.cells.items c.take_out.new.segment c.take_out.ensures.writes c.args.v c.index_mut-2.result.now onto c.index_mut-2.ensures.value c.take_out-2.new.cells.items c.take_out-2.new.segment c.take_out-2.ensures.writes

pub returns-clause-lacking : goal.returns-clause-lacking
returns-clause-lacking c =
    let s = c.self.inside in
    let from : c.args.u < length s.rows.items = omega (arith, c.requires.from, ap (λ l. length l.nodes) c.self.view_is, length-map s.rows.items (node_in s.cells.items)) in
    let onto : c.args.v < length s.rows.items = omega (arith, c.requires.onto, ap (λ l. length l.nodes) c.self.view_is, length-map s.rows.items (node_in s.cells.items)) in
    rw (← c.self.view_is) (edge-lacking s.cells.items s.rows.items c.args.u c.index_mut.result.now from c.index_mut.ensures.value c.self.invariant c.take_out.new.cells.items c.take_out.new.segment c.take_out.ensures.writes c.args.v c.index_mut-2.result.now onto c.index_mut-2.ensures.value c.take_out-2.new.cells.items c.take_out-2.new.segment c.take_out-2.ensures.writes c.take_out.ensures.without c.take_out-2.ensures.without)

pub returns-clause-reserved : goal.returns-clause-reserved
returns-clause-reserved c =
    let s = c.self.inside in
    let from : c.args.u < length s.rows.items = omega (arith, c.requires.from, ap (λ l. length l.nodes) c.self.view_is, length-map s.rows.items (node_in s.cells.items)) in
    let onto : c.args.v < length s.rows.items = omega (arith, c.requires.onto, ap (λ l. length l.nodes) c.self.view_is, length-map s.rows.items (node_in s.cells.items)) in
    rw (← c.self.view_is) (reserved-kept s.cells.items s.rows.items c.args.u c.index_mut.result.now from c.index_mut.ensures.value c.self.invariant c.take_out.new.cells.items c.take_out.new.segment c.take_out.ensures.writes c.args.v c.index_mut-2.result.now onto c.index_mut-2.ensures.value c.take_out-2.new.cells.items c.take_out-2.new.segment c.take_out-2.ensures.writes c.take_out.ensures.capacity c.take_out.ensures.len c.take_out-2.ensures.capacity c.take_out-2.ensures.len)
