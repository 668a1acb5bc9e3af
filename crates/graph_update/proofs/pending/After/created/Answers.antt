use Rattle.std.proofs.Common.{◌≤◌, ◌^◌, subst}
use Rattle.graph_update.proofs.PendingLaws.{new_edges, new_graph}
use Rattle.graph_update.proofs.pending.After.created.Goals as goal

pub returns-clause-few_edges : goal.returns-clause-few_edges
returns-clause-few_edges c =
    rw (← c.self.view_is) (new_edges c.self.inside.change.now c.self.inside.graph.now.graph c.self.invariant.new
    (subst (λ k. k ≤ 2 ^ 30) c.edge_count-known.ensures.count c.edge_count-known.ensures.few))

pub returns-clause-after : goal.returns-clause-after
returns-clause-after c = rw (← c.self.view_is) (new_graph c.self.inside.change.now c.self.inside.graph.now.graph c.self.invariant.new c.self.invariant.sound)
