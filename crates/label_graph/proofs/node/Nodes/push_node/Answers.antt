use Rattle.std.proofs.Common.{Some, arith, length, ◌<◌, ap, refl}
use Rattle.std.proofs.lemmas.List.{length-map}
use Rattle.label_graph.specs.NodeRows.{node_in}
use Rattle.label_graph.proofs.RowLabels.{rows-next, labels-next, children-as, parents-as, reserved-as}
use Rattle.label_graph.proofs.node.Nodes.push_node.Goals as goal

pub invariant_of-self : goal.invariant_of-self
invariant_of-self c =
    let s = c.self.inside in
    let below : s.shown < length s.rows.items = omega (arith, c.requires, ap (λ l. length l.nodes) c.self.view_is, ap (λ l. l.shown) c.self.view_is, length-map s.rows.items (node_in s.cells.items)) in
    rows-next s.cells.items s.rows.items s.shown c.index_mut.result.now (Some c.args.label) below c.index_mut.ensures.value s.shown c.self.invariant refl

pub returns-clause-labels : goal.returns-clause-labels
returns-clause-labels c =
    let s = c.self.inside in
    let below : s.shown < length s.rows.items = omega (arith, c.requires, ap (λ l. length l.nodes) c.self.view_is, ap (λ l. l.shown) c.self.view_is, length-map s.rows.items (node_in s.cells.items)) in
    rw (← c.self.view_is)
    (labels-next s.cells.items s.rows.items s.shown c.index_mut.result.now (Some c.args.label) below c.index_mut.ensures.value s.shown c.self.invariant refl)

pub returns-clause-children : goal.returns-clause-children
returns-clause-children c w =
    let s = c.self.inside in
    let below : s.shown < length s.rows.items = omega (arith, c.requires, ap (λ l. length l.nodes) c.self.view_is, ap (λ l. l.shown) c.self.view_is, length-map s.rows.items (node_in s.cells.items)) in
    rw (← c.self.view_is) (children-as s.cells.items s.rows.items s.shown c.index_mut.result.now (Some c.args.label) below c.index_mut.ensures.value w)

pub returns-clause-parents : goal.returns-clause-parents
returns-clause-parents c w =
    let s = c.self.inside in
    let below : s.shown < length s.rows.items = omega (arith, c.requires, ap (λ l. length l.nodes) c.self.view_is, ap (λ l. l.shown) c.self.view_is, length-map s.rows.items (node_in s.cells.items)) in
    rw (← c.self.view_is) (parents-as s.cells.items s.rows.items s.shown c.index_mut.result.now (Some c.args.label) below c.index_mut.ensures.value w)

pub returns-clause-reserved : goal.returns-clause-reserved
returns-clause-reserved c =
    let s = c.self.inside in
    let below : s.shown < length s.rows.items = omega (arith, c.requires, ap (λ l. length l.nodes) c.self.view_is, ap (λ l. l.shown) c.self.view_is, length-map s.rows.items (node_in s.cells.items)) in
    rw (← c.self.view_is) (reserved-as s.cells.items s.rows.items s.shown c.index_mut.result.now (Some c.args.label) below c.index_mut.ensures.value)
