use Rattle.std.proofs.Common.{ap, inl, inr}
use Rattle.std.proofs.lemmas.Bool.{both_ways}
use Rattle.graph_spec.specs.Members.{has}
use Rattle.graph_spec.specs.Shapes.{shape_of}
use Rattle.one_index.proofs.Uniform.{uniform_from}
use Rattle.one_index.proofs.stability.is_uniform.Goals as goal

pub returns-clause-yes : goal.returns-clause-yes
returns-clause-yes c h block =
    uniform_from (shape_of c.args.view.now) c.args.summary.now.blocks.block_of c.args.b c.in-Some.first (λ n e.
    elim (c.loop-n.invariant.passed n e) [
      | inl left ↦ absurd (both_ways (has c.loop-n.n-iterator n) (ap (λ l. has l n) c.in-None.ensures.steps.0) left)
      | inr like ↦ like
    ])
