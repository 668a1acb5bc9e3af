use Rattle.std.proofs.Common.{refl, sym, subst}
use Rattle.label_graph.specs.NodeRows.{AreRows, nodes_in}
use Rattle.label_graph.specs.Nodes.{SameNodes}
use Rattle.label_graph.proofs.RowLabels.{rows-pushed, same-pushed}
use Rattle.label_graph.proofs.node.Nodes.reserve_node.Goals as goal

pub invariant_of-self-2 : goal.invariant_of-self-2
invariant_of-self-2 c =
    let s = c.self.inside in
    subst (λ l. AreRows s.cells.items l s.shown) (sym c.in_ok-push.ensures.items)
    (rows-pushed s.cells.items s.rows.items _ (record { len = refl; reserved = refl }) (record { len = refl; reserved = refl }) refl s.shown c.self.invariant)

pub returns-clause-same : goal.returns-clause-same
returns-clause-same c =
    let s = c.self.inside in
    rw (← c.self.view_is)
    (subst (λ l. SameNodes s.shown (nodes_in s.cells.items s.rows.items) (nodes_in s.cells.items l)) (sym c.in_ok-push.ensures.items)
    (same-pushed s.cells.items s.rows.items _ (record { len = refl; reserved = refl }) (record { len = refl; reserved = refl }) refl s.shown c.self.invariant))
