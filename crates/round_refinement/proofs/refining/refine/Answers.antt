use Rattle.std.proofs.Common.{arith}
use Rattle.round_refinement.proofs.NeighbourBlocks.{neighbour_block}
use Rattle.round_refinement.proofs.NumberedNodes.{numbered_more, numbered_all, numbered_refines}
use Rattle.round_refinement.proofs.refining.refine.Goals as goal

pub loop-n-preserved : goal.loop-n-preserved
loop-n-preserved g c = record {
  numbered = rw c.in_ok-push.ensures.items (numbered_more _ _ _ _ _ _ _ _ c.loop-n.invariant.numbered c.in_ok-number.ensures.ok);
  distinct = c.in_ok-number.ensures.distinct;
}

pub returns : goal.returns
returns g c =
    numbered_refines _ _ _ _ _
    (neighbour_block c.args.side (g.G.Digraph.label_at c.args.g.now) (g.G.Digraph.edge c.args.g.now) c.args.base.now (g.met.G.Digraph.ends c.args.g.now) c.requires.base)
    c.loop-n.invariant.distinct.apart
    (numbered_all _ _ _ _ _ _ c.loop-n.invariant.numbered (λ m h.
    let below = g.met.G.Digraph.below c.args.g.now m (c.requires.own m h) in
    let end = c.loop-n-test.false in
    let size = c.size-n-end.ensures in
    omega (arith, below, end, size)))
