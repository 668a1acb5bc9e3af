use Rattle.std.proofs.Common.{sym, ◌∙◌, true≢false}
use Rattle.label_graph.proofs.Uses.{empty-unused, unused-below, unused-above}
use Rattle.label_graph.proofs.graph.Graph.is_isolated.Goals as goal

pub returns-then-is_empty-clause-isolated : goal.returns-then-is_empty-clause-isolated
returns-then-is_empty-clause-isolated g c =
    let graph = c.args.self.now.graph in
    let below = c.child_list.result.now in
    let above = c.parent_list.result.now in
    let children = c.child_list.ensures.edges in
    let parents = c.parent_list.ensures.edges in (
      λ t. empty-unused graph c.args.n below children above parents (sym c.is_empty.ensures ∙ c.if-is_empty.true) (sym c.is_empty-then-is_empty.ensures ∙ t),
      λ h. c.is_empty-then-is_empty.ensures ∙ unused-above graph c.args.n below children above parents h,
    )

pub returns-else-is_empty-clause-isolated : goal.returns-else-is_empty-clause-isolated
returns-else-is_empty-clause-isolated g c =
    (λ t. absurd (true≢false (sym t ∙ c.if-is_empty.false)), λ h. c.is_empty.ensures ∙ unused-below c.args.self.now.graph c.args.n c.child_list.result.now c.child_list.ensures.edges h)
