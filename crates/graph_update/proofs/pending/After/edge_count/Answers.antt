use Rattle.std.proofs.Common.{◌≤◌, ◌^◌, ◌∙◌, sym, ap, subst}
use Rattle.std.specs.FinSet as set
use Rattle.change_spec.specs.Steps.{after}
use Rattle.change_spec.specs.Places.{CanMakeAll}
use Rattle.graph_update.proofs.PendingLaws.{new_can, new_edges}
use Rattle.graph_update.proofs.pending.After.edge_count.Goals as goal

pub edges_after-requires-clause-can : goal.edges_after-requires-clause-can
edges_after-requires-clause-can c =
    subst (λ k. CanMakeAll k c.self.inside.graph.now.graph) (sym c.steps.ensures) (new_can c.self.inside.change.now c.self.inside.graph.now.graph c.self.invariant.new)

pub returns-clause-few : goal.returns-clause-few
returns-clause-few c =
    let g = c.self.inside.graph.now.graph in
    subst (λ k. k ≤ 2 ^ 30) (sym (c.edges_after.ensures.edges ∙ ap (λ k. set.len (after k g).edges) c.steps.ensures))
    (new_edges c.self.inside.change.now g c.self.invariant.new c.edges_after.ensures.before)
