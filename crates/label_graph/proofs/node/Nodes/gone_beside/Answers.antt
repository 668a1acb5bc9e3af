use Rattle.std.proofs.Common.{◌≡◌, ◌∙◌, ◌<◌, sym, ap, subst, arith, length, get_or}
use Rattle.label_graph.specs.Nodes.{IsGoneBeside}
use Rattle.label_graph.proofs.RowLemmas.{label-seen, label-shown}
use Rattle.label_graph.proofs.Reuses.{no-number}
use Rattle.label_graph.proofs.node.Nodes.gone_beside.Goals as goal

pub returns : goal.returns
returns c =
    let s = c.self.inside in
    let r = c.in_ok-row.row.now in
    let below : c.args.g < length s.rows.items = omega (arith, c.in_ok-row.ensures.lookup.3.0, ap length c.deref.ensures.value) in
    let is : r ≡ get_or s.rows.items c.args.g r = c.in_ok-row.ensures.lookup.1 ∙ ap (λ l. get_or l c.args.g r) c.deref.ensures.value in
    subst (λ l. IsGoneBeside l.shown l.nodes c.args.u c.args.g) c.self.view_is
    (record {
      given = omega (arith, c.if-g-self.false);
      other = c.if-g-u.false;
      gone = label-shown s.cells.items s.rows.items s.shown c.args.g c.self.invariant ∙ sym (label-seen s.cells.items s.rows.items c.args.g r below is) ∙ no-number r.label (sym c.is_some.ensures ∙ c.if-is_some.false);
    })
