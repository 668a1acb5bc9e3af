use Rattle.std.proofs.Common.{arith}
use Rattle.round_refinement.proofs.LevelLaws.{labels_agree, both_more, agree_as}
use Rattle.index_check.proofs.LevelLaws.{both_same}
use Rattle.index_check.proofs.levels.level_both.Goals as goal

pub loop-j-init : goal.loop-j-init
loop-j-init g c = record {
  agrees = labels_agree (g.G.Digraph.span c.args.g.now) (g.G.Digraph.label_at c.args.g.now) (g.G.Digraph.edge c.args.g.now) c.in_ok-block.block.items c.in_ok-block.ensures;
  within = omega arith;
}

pub loop-j-preserved : goal.loop-j-preserved
loop-j-preserved g c = record {
  agrees = both_more _ _ c.loop-j.j _ (omega arith) (c.in_ok-next.ensures.agrees c.loop-j.j (agree_as _ _ _ _ c.deref.ensures.value c.loop-j.invariant.agrees));
  within = (let t = c.loop-j-test.true in omega (arith, t));
}

pub returns : goal.returns
returns g c = both_same _ _ c.loop-j.j c.args.i (let t = c.loop-j-test.false in let w = c.loop-j.invariant.within in omega (arith, t, w)) c.loop-j.invariant.agrees
