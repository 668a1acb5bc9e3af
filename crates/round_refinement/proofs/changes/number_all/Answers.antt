use Rattle.std.proofs.Common.{sym, subst, arith}
use Rattle.round_refinement.specs.NeighbourSides.{is_neighbour}
use Rattle.round_refinement.specs.Changes.{AreNear}
use Rattle.round_refinement.proofs.ChangeLaws.{numbered_more, numbered_all}
use Rattle.round_refinement.proofs.changes.number_all.Goals as goal

pub loop-i-preserved : goal.loop-i-preserved
loop-i-preserved g c = record {
  numbered = rw c.in_ok-push.ensures.items (numbered_more (is_neighbour c.args.side (g.G.Digraph.edge c.args.g.now)) c.args.parts.now.before.items c.args.parts.now.block.items
      c.args.active.now c.args.own.now _ _ _ _ _ c.loop-i.invariant.numbered c.in_ok-k.ensures.number);
  distinct = c.in_ok-k.ensures.distinct;
  near = subst (AreNear (is_neighbour c.args.side (g.G.Digraph.edge c.args.g.now)) c.args.parts.now.before.items c.args.parts.now.block.items) (sym c.in_ok-k.ensures.near) c.loop-i.invariant.near;
  watched = c.in_ok-k.ensures.watched;
  within = (let t = c.loop-i-test.true in omega (arith, t));
}

pub returns-clause-parted : goal.returns-clause-parted
returns-clause-parted g c =
    numbered_all (is_neighbour c.args.side (g.G.Digraph.edge c.args.g.now)) c.args.parts.now.before.items c.args.parts.now.block.items c.args.active.now c.args.own.now _ _ _
    (let t = c.loop-i-test.false in let w = c.loop-i.invariant.within in omega (arith, t, w)) c.loop-i.invariant.distinct c.loop-i.invariant.numbered
