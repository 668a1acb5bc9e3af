use Rattle.std.proofs.Common.{◌≡◌, ◌∙◌, ◌<◌, sym, subst, ap, arith, length, get_or}
use Rattle.cell_lists.specs.Segments.{LiesWithin}
use Rattle.label_graph.proofs.Reuses.{list_place, list-is, list-within, nodes-noted}
use Rattle.label_graph.proofs.node.Nodes.offer.Goals as goal

pub offer-requires : goal.offer-requires
offer-requires c =
    let s = c.self.inside in
    let r = c.in-Some.row.now in
    let below : c.args.n < length s.rows.items = omega (arith, c.in-Some.ensures.lookup.3.0, ap length c.deref.ensures.value) in
    let is : r ≡ get_or s.rows.items c.args.n r = c.in-Some.ensures.lookup.1 ∙ ap (λ l. get_or l c.args.n r) c.deref.ensures.value in
    subst (LiesWithin (length s.cells.items)) (sym c.list-list.ensures) (list-within s.cells.items c.args.side s.rows.items c.args.n r below is c.self.invariant.held)

pub returns : goal.returns
returns c =
    let s = c.self.inside in
    let r = c.in-Some.row.now in
    let below : c.args.n < length s.rows.items = omega (arith, c.in-Some.ensures.lookup.3.0, ap length c.deref.ensures.value) in
    let is : r ≡ get_or s.rows.items c.args.n r = c.in-Some.ensures.lookup.1 ∙ ap (λ l. get_or l c.args.n r) c.deref.ensures.value in
    ap (λ l. record { nodes = l; shown = s.shown })
    (nodes-noted s.cells.items c.offer.new.cells.items s.rows.items (list_place c.args.side c.args.n) c.list-list.result
    (list-is c.args.side s.rows.items c.args.n r below is ∙ sym c.list-list.ensures) c.offer.ensures.writes c.offer.ensures.items c.self.invariant.held)
    ∙ c.self.view_is
