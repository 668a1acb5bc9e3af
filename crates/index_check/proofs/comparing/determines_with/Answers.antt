use Rattle.std.proofs.Common.{arith, refl}
use Rattle.bisim_spec.proofs.Bisimilar.{is_some_at}
use Rattle.bisim_spec.proofs.Together.{block_below}
use Rattle.graph_spec.specs.Members.{at}
use Rattle.index_check.proofs.ComparedLaws.{compared_determines}
use Rattle.index_check.proofs.comparing.determines_with.Goals as goal

pub returns : goal.returns
returns c = (
  λ _. compared_determines _ _ _ _ c.loop-n.invariant.compared (λ m b e.
      let l = block_below c.args.keys.now m (is_some_at (at c.args.keys.now m) b e) in
      let t = c.loop-n-test.false in
      omega (arith, l, t)),
  λ _. refl,
)
