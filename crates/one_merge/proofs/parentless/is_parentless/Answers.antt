use Rattle.std.proofs.Common.{◌∙◌, ap, []}
use Rattle.graph_spec.specs.Shapes.{Shape}
use Rattle.bisim_spec.specs.IndexGraphs.{support_at}
use Rattle.one_merge.proofs.ParentlessLaws.{all_own, lists_as}
use Rattle.one_merge.proofs.parentless.is_parentless.Goals as goal

pub returns-clause-all : goal.returns-clause-all
returns-clause-all c = λ some parentless_block.
    c.are_all.ensures
    ∙ all_own (λ a. support_at c.args.base.now.supports a c.args.b) c.args.b c.parents.result.now
    (lists_as _ _ _ (λ a. ap (λ (s : Shape). s.edge a c.args.b) (c.blocks-known.ensures.shape [])) c.parents.ensures) parentless_block
