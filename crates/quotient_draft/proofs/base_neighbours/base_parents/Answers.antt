use Rattle.std.proofs.Common.{◌∙◌, sym, ap, [], nat_lt}
use Rattle.std.specs.Prelude.{is_some}
use Rattle.graph_spec.specs.Members.{at}
use Rattle.graph_spec.specs.Shapes.{Shape}
use Rattle.bisim_spec.specs.IndexGraphs.{support_at}
use Rattle.quotient_draft.proofs.SupportLists.{lists_as, lists_none, unjoined, and_off}
use Rattle.quotient_draft.proofs.base_neighbours.base_parents.Goals as goal

pub returns-then-is_node : goal.returns-then-is_node
returns-then-is_node c = lists_as _ _ _ (λ a. ap (λ (s : Shape). s.edge a c.args.b) (c.blocks-known.ensures.shape [])) c.parents.ensures

pub returns : goal.returns
returns c = lists_none _ (λ a.
    let labels = c.args.base.now.blocks.labels in
    unjoined (nat_lt 0 (support_at c.args.base.now.supports a c.args.b)) (is_some (at labels a)) (is_some (at labels c.args.b))
    (ap (λ (s : Shape). s.edge a c.args.b) (c.blocks-known.ensures.shape [])) (and_off (is_some (at labels a)) (is_some (at labels c.args.b)) (sym c.is_node.ensures ∙ c.if-is_node.false)))
