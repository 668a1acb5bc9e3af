use Rattle.std.proofs.Common.{refl, sym, below_more, true≢false, arith}
use Rattle.one_index.proofs.MergeLaws.{minimal_from, not_minimal}
use Rattle.one_index.proofs.merging.is_minimal.Goals as goal

pub returns-then-has_mergeable : goal.returns-then-has_mergeable
returns-then-has_mergeable c = λ g graph viewed. (
  λ h. absurd (true≢false (sym h)),
  λ minimal.
      let m = c.has_mergeable.ensures.yes c.if-has_mergeable.true in
      absurd (not_minimal g c.args.summary.now graph viewed m.0 m.1 c.loop-a.a m.2 m.3 m.4 m.5 m.6 minimal),
)

pub loop-a-preserved : goal.loop-a-preserved
loop-a-preserved c = below_more _ _ c.loop-a.invariant (c.has_mergeable.ensures.no c.if-has_mergeable.false)

pub returns : goal.returns
returns c = λ g graph viewed. (
  λ h. minimal_from g c.args.summary.now graph viewed (λ x less. c.loop-a.invariant x (let end = c.loop-a-test.false in let size = c.size-a-end.ensures in omega (arith, less, end, size))),
  λ minimal. refl,
)
