use Rattle.std.proofs.Common.{◌∙◌, sym, ap, length, arith, get_or}
use Rattle.label_graph.proofs.RowLemmas.{label-seen, label-shown}
use Rattle.label_graph.proofs.node.Nodes.label.Goals as goal

pub returns : goal.returns
returns c =
    rw (← c.self.view_is)
    (sym (label-shown c.self.inside.cells.items c.self.inside.rows.items c.self.inside.shown c.args.n c.self.invariant ∙ sym (label-seen c.self.inside.cells.items c.self.inside.rows.items c.args.n c.in_ok-row.row.now (omega (arith, c.in_ok-row.ensures.lookup.3.0, ap length c.deref.ensures.value))
    (c.in_ok-row.ensures.lookup.1 ∙ ap (λ l. get_or l c.args.n c.in_ok-row.row.now) c.deref.ensures.value))))
