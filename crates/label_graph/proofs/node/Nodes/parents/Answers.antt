use Rattle.std.proofs.Common.{◌∙◌, sym, ap, subst, length, arith, get_or}
use Rattle.std.proofs.lemmas.List.{length-map}
use Rattle.cell_lists.specs.Segments.{items_in, LiesWithin}
use Rattle.label_graph.specs.NodeRows.{node_in}
use Rattle.label_graph.proofs.GetNodes.{parents-past}
use Rattle.label_graph.proofs.RowLemmas.{parent-within, parents-seen}
use Rattle.label_graph.proofs.node.Nodes.parents.Goals as goal

pub items-requires : goal.items-requires
items-requires c =
    subst (λ l. LiesWithin (length l) c.in-Some.row.now.parents) (sym c.deref-in-Some.ensures.value)
    (parent-within c.self.inside.cells.items c.self.inside.rows.items c.args.n c.in-Some.row.now (omega (arith, c.in-Some.ensures.lookup.3.0, ap length c.deref.ensures.value))
    (c.in-Some.ensures.lookup.1 ∙ ap (λ l. get_or l c.args.n c.in-Some.row.now) c.deref.ensures.value) c.self.invariant.held)

pub returns-in-Some : goal.returns-in-Some
returns-in-Some c =
    rw (← c.self.view_is)
    (c.items.ensures ∙ ap (λ l. items_in l c.in-Some.row.now.parents) c.deref-in-Some.ensures.value
    ∙ parents-seen c.self.inside.cells.items c.self.inside.rows.items c.args.n c.in-Some.row.now (omega (arith, c.in-Some.ensures.lookup.3.0, ap length c.deref.ensures.value))
    (c.in-Some.ensures.lookup.1 ∙ ap (λ l. get_or l c.args.n c.in-Some.row.now) c.deref.ensures.value))

pub returns-in-None : goal.returns-in-None
returns-in-None c =
    rw (← c.self.view_is)
    (sym (parents-past _ c.args.n (omega (arith, c.in-None.ensures.lookup.3, ap length c.deref.ensures.value, length-map c.self.inside.rows.items (node_in c.self.inside.cells.items)))))
