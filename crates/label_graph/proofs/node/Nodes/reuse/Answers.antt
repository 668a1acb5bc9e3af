use Rattle.std.proofs.Common.{◌<◌, length, ap, arith, subst, sym}
use Rattle.std.proofs.lemmas.List.{length-map}
use Rattle.label_graph.specs.Nodes.{IsGoneBeside}
use Rattle.label_graph.specs.NodeRows.{node_in}
use Rattle.label_graph.proofs.Reuses.{list-fits, vacant-fits, lists-apart, held-lists, same-lists}
use Rattle.label_graph.proofs.node.Nodes.reuse.Goals as goal

pub exchange-requires-clause-list : goal.exchange-requires-clause-list
exchange-requires-clause-list c =
    let s = c.self.inside in
    let from : c.args.u < length s.rows.items = omega (arith, c.requires, ap (λ l. length l.nodes) c.self.view_is, length-map s.rows.items (node_in s.cells.items)) in
    let gone = subst (λ l. IsGoneBeside l.shown l.nodes c.args.u c.in-Some.g) (sym c.self.view_is) c.in-Some.ensures in
    list-fits s.cells.items c.args.side s.rows.items c.args.u c.in-Some.g c.index.result.now c.index-2.result.now c.list-list.result c.list-vacant.result from c.index.ensures c.index-2.ensures c.list-list.ensures c.list-vacant.ensures gone c.self.invariant

pub exchange-requires-clause-vacant : goal.exchange-requires-clause-vacant
exchange-requires-clause-vacant c =
    let s = c.self.inside in
    let from : c.args.u < length s.rows.items = omega (arith, c.requires, ap (λ l. length l.nodes) c.self.view_is, length-map s.rows.items (node_in s.cells.items)) in
    let gone = subst (λ l. IsGoneBeside l.shown l.nodes c.args.u c.in-Some.g) (sym c.self.view_is) c.in-Some.ensures in
    vacant-fits s.cells.items c.args.side s.rows.items c.args.u c.in-Some.g c.index.result.now c.index-2.result.now c.list-list.result c.list-vacant.result from c.index.ensures c.index-2.ensures c.list-list.ensures c.list-vacant.ensures gone c.self.invariant

pub exchange-requires-clause-apart : goal.exchange-requires-clause-apart
exchange-requires-clause-apart c =
    let s = c.self.inside in
    let from : c.args.u < length s.rows.items = omega (arith, c.requires, ap (λ l. length l.nodes) c.self.view_is, length-map s.rows.items (node_in s.cells.items)) in
    let gone = subst (λ l. IsGoneBeside l.shown l.nodes c.args.u c.in-Some.g) (sym c.self.view_is) c.in-Some.ensures in
    lists-apart s.cells.items c.args.side s.rows.items c.args.u c.in-Some.g c.index.result.now c.index-2.result.now c.list-list.result c.list-vacant.result from c.index.ensures c.index-2.ensures c.list-list.ensures c.list-vacant.ensures gone c.self.invariant

pub invariant_of-self : goal.invariant_of-self
invariant_of-self c =
    let s = c.self.inside in
    let from : c.args.u < length s.rows.items = omega (arith, c.requires, ap (λ l. length l.nodes) c.self.view_is, length-map s.rows.items (node_in s.cells.items)) in
    let gone = subst (λ l. IsGoneBeside l.shown l.nodes c.args.u c.in-Some.g) (sym c.self.view_is) c.in-Some.ensures in
    held-lists s.cells.items c.args.side s.rows.items c.args.u c.in-Some.g c.index.result.now c.index-2.result.now c.list-list.result c.list-vacant.result from c.index.ensures c.index-2.ensures c.list-list.ensures c.list-vacant.ensures gone c.self.invariant
    c.exchange.new.cells.items c.exchange.new.list c.exchange.new.vacant c.index_mut.result.now c.index_mut-2.result.now c.set_list.new.self c.set_list-2.new.self
    c.index_mut.ensures.value c.index_mut-2.ensures.value c.set_list.ensures c.set_list-2.ensures c.exchange.ensures

pub returns-clause-same : goal.returns-clause-same
returns-clause-same c =
    let s = c.self.inside in
    let from : c.args.u < length s.rows.items = omega (arith, c.requires, ap (λ l. length l.nodes) c.self.view_is, length-map s.rows.items (node_in s.cells.items)) in
    let gone = subst (λ l. IsGoneBeside l.shown l.nodes c.args.u c.in-Some.g) (sym c.self.view_is) c.in-Some.ensures in
    rw (← c.self.view_is, c.offer.ensures)
    (same-lists s.cells.items c.args.side s.rows.items c.args.u c.in-Some.g c.index.result.now c.index-2.result.now c.list-list.result c.list-vacant.result from c.index.ensures c.index-2.ensures c.list-list.ensures c.list-vacant.ensures gone c.self.invariant
    c.exchange.new.cells.items c.exchange.new.list c.exchange.new.vacant c.index_mut.result.now c.index_mut-2.result.now c.set_list.new.self c.set_list-2.new.self
    c.index_mut.ensures.value c.index_mut-2.ensures.value c.set_list.ensures c.set_list-2.ensures c.exchange.ensures)
