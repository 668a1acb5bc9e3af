use Rattle.std.proofs.Common.{arith, length, ◌<◌, ap}
use Rattle.label_graph.proofs.RowLabels.{rows-as, labels-as, children-as, parents-as, reserved-as}
use Rattle.label_graph.proofs.node.Nodes.write_label.Goals as goal

pub invariant_of-self : goal.invariant_of-self
invariant_of-self c =
    let s = c.self.inside in
    let shown : c.args.n < s.shown = omega (arith, c.requires, ap (λ l. l.shown) c.self.view_is) in
    let below : c.args.n < length s.rows.items = omega (arith, shown, c.self.invariant.within) in
    rows-as s.cells.items s.rows.items c.args.n c.index_mut.result.now c.args.label below c.index_mut.ensures.value s.shown c.self.invariant shown

pub returns-clause-labels : goal.returns-clause-labels
returns-clause-labels c =
    let s = c.self.inside in
    let below : c.args.n < length s.rows.items = omega (arith, c.requires, ap (λ l. l.shown) c.self.view_is, c.self.invariant.within) in
    rw (← c.self.view_is)
    (labels-as s.cells.items s.rows.items c.args.n c.index_mut.result.now c.args.label below c.index_mut.ensures.value s.shown c.self.invariant)

pub returns-clause-children : goal.returns-clause-children
returns-clause-children c w =
    let s = c.self.inside in
    let below : c.args.n < length s.rows.items = omega (arith, c.requires, ap (λ l. l.shown) c.self.view_is, c.self.invariant.within) in
    rw (← c.self.view_is) (children-as s.cells.items s.rows.items c.args.n c.index_mut.result.now c.args.label below c.index_mut.ensures.value w)

pub returns-clause-parents : goal.returns-clause-parents
returns-clause-parents c w =
    let s = c.self.inside in
    let below : c.args.n < length s.rows.items = omega (arith, c.requires, ap (λ l. l.shown) c.self.view_is, c.self.invariant.within) in
    rw (← c.self.view_is) (parents-as s.cells.items s.rows.items c.args.n c.index_mut.result.now c.args.label below c.index_mut.ensures.value w)

pub returns-clause-reserved : goal.returns-clause-reserved
returns-clause-reserved c =
    let s = c.self.inside in
    let below : c.args.n < length s.rows.items = omega (arith, c.requires, ap (λ l. l.shown) c.self.view_is, c.self.invariant.within) in
    rw (← c.self.view_is) (reserved-as s.cells.items s.rows.items c.args.n c.index_mut.result.now c.args.label below c.index_mut.ensures.value)
