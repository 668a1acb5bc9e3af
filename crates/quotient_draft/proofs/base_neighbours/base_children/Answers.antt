use Rattle.std.proofs.Common.{◌∙◌, sym, ap, [], ◌&&◌, nat_lt}
use Rattle.std.specs.Prelude.{is_some}
use Rattle.graph_spec.specs.Members.{at}
use Rattle.graph_spec.specs.Shapes.{Shape}
use Rattle.bisim_spec.specs.IndexGraphs.{support_at}
use Rattle.quotient_draft.proofs.SupportLists.{lists_as, lists_none, unjoined}
use Rattle.quotient_draft.proofs.base_neighbours.base_children.Goals as goal

pub returns-then-is_node : goal.returns-then-is_node
returns-then-is_node c = lists_as _ _ _ (λ b. ap (λ (s : Shape). s.edge c.args.a b) (c.blocks-known.ensures.shape [])) c.children.ensures

pub returns : goal.returns
returns c = lists_none _ (λ b.
    let labels = c.args.base.now.blocks.labels in
    unjoined (nat_lt 0 (support_at c.args.base.now.supports c.args.a b)) (is_some (at labels c.args.a)) (is_some (at labels b))
    (ap (λ (s : Shape). s.edge c.args.a b) (c.blocks-known.ensures.shape [])) (ap (λ z. z && is_some (at labels b)) (sym c.is_node.ensures ∙ c.if-is_node.false)))
