use Rattle.std.proofs.Common.{arith}
use Rattle.round_refinement.proofs.NumberedNodes.{numbered_more, numbered_all}
use Rattle.index_check.proofs.outer.number_by_outer.Goals as goal

pub loop-n-preserved : goal.loop-n-preserved
loop-n-preserved g c = record {
  numbered = rw c.in_ok-push.ensures.items (numbered_more _ _ _ _ _ _ _ _ c.loop-n.invariant.numbered c.in_ok-number.ensures.ok);
  distinct = c.in_ok-number.ensures.distinct;
}

pub returns-clause-numbered : goal.returns-clause-numbered
returns-clause-numbered g c =
    numbered_all _ _ _ _ _ _ c.loop-n.invariant.numbered (λ m h.
    let below = g.met.G.Digraph.below c.args.g.now m (c.requires.own m h) in
    let end = c.loop-n-test.false in
    let size = c.size-n-end.ensures in
    omega (arith, below, end, size))
