use Rattle.std.proofs.Common.{refl, sym, below_more, true≢false, arith}
use Rattle.graph_spec.specs.Shapes.{shape_of}
use Rattle.one_index.proofs.Uniform.{stable_uniform, stable_below}
use Rattle.one_index.proofs.stability.is_stable.Goals as goal

pub returns-then-not-is_uniform : goal.returns-then-not-is_uniform
returns-then-not-is_uniform c = (
  λ h. absurd (true≢false (sym h)),
  λ stable. absurd (c.is_uniform.ensures.no c.if-not-is_uniform.true (stable_uniform (shape_of c.args.view.now) c.args.summary.now.blocks.block_of c.loop-b.b stable)),
)

pub loop-b-preserved : goal.loop-b-preserved
loop-b-preserved c = below_more _ _ c.loop-b.invariant (c.is_uniform.ensures.yes c.if-not-is_uniform.false)

pub returns : goal.returns
returns c = (
  λ h. stable_below c.args.view.now c.args.summary.now c.size-b-end.result c.size-b-end.ensures (c.is_partition.ensures.yes c.if-not-is_partition.false)
      (c.is_partition.ensures.live c.if-not-is_partition.false) (λ b less. c.loop-b.invariant b (let end = c.loop-b-test.false in omega (arith, less, end))),
  λ stable. refl,
)
