use Rattle.std.proofs.Common.{arith, subst, sym}
use Rattle.graph_spec.specs.Graphs.{Graph, has_edge}
use Rattle.graph_spec.specs.Members.{Lists}
use Rattle.graph_update.specs.PendingChanges.{graph_after}
use Rattle.graph_effects.proofs.GoneEdges.{goes_next, node_cost}
use Rattle.graph_effects.proofs.edges.lose_node.Goals as goal

pub returns-clause-lost : goal.returns-clause-lost
returns-clause-lost g c =
    let a = c.args.after.now in
    let u = c.args.u in
    let cs = c.children-children.result.now in
    let ps = c.parents-parents.result.now in
    let children = subst (λ (h : Graph). Lists (has_edge h u) cs) (sym c.requires.graph) c.children-children.ensures.children in
    let parents = subst (λ (h : Graph). Lists (λ p. has_edge h p u) ps) (sym c.requires.graph) c.parents-parents.ensures.parents in
    goes_next a.before (graph_after a) u cs ps c.args.lost.now.items c.lose_children.new.lost.items c.lose_parents.new.lost.items c.requires.gone children parents
    c.in_ok-lose_children.ensures c.in_ok-lose_parents.ensures

pub returns-clause-cost : goal.returns-clause-cost
returns-clause-cost g c =
    let most = node_cost c.args.after.now.before c.args.graph.now.graph c.args.u c.children-children.result.now c.parents-parents.result.now c.requires.graph c.created-known.ensures.before
    c.children-children.ensures.children c.parents-parents.ensures.parents in
    let cost = c.children-children.ensures.cost in
    let cost2 = c.parents-parents.ensures.cost in
    omega (arith, most, cost, cost2)

pub returns-in_err-lose_children-clause-cost : goal.returns-in_err-lose_children-clause-cost
returns-in_err-lose_children-clause-cost g c =
    let most = node_cost c.args.after.now.before c.args.graph.now.graph c.args.u c.children-children.result.now c.parents-parents.result.now c.requires.graph c.created-known.ensures.before
    c.children-children.ensures.children c.parents-parents.ensures.parents in
    let cost = c.children-children.ensures.cost in
    let cost2 = c.parents-parents.ensures.cost in
    omega (arith, most, cost, cost2)

pub returns-in_err-lose_parents-clause-cost : goal.returns-in_err-lose_parents-clause-cost
returns-in_err-lose_parents-clause-cost g c =
    let most = node_cost c.args.after.now.before c.args.graph.now.graph c.args.u c.children-children.result.now c.parents-parents.result.now c.requires.graph c.created-known.ensures.before
    c.children-children.ensures.children c.parents-parents.ensures.parents in
    let cost = c.children-children.ensures.cost in
    let cost2 = c.parents-parents.ensures.cost in
    omega (arith, most, cost, cost2)
