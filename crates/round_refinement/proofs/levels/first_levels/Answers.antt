use Rattle.std.proofs.Common.{arith}
use Rattle.round_refinement.proofs.LevelLaws.{labels_agree, both_more, agree_as}
use Rattle.round_refinement.proofs.levels.first_levels.Goals as goal

pub loop-j-init : goal.loop-j-init
loop-j-init g c = labels_agree (g.G.Digraph.span c.args.g.now) (g.G.Digraph.label_at c.args.g.now) (g.G.Digraph.edge c.args.g.now) c.in_ok-block.block.items c.in_ok-block.ensures

pub loop-j-preserved : goal.loop-j-preserved
loop-j-preserved g c = both_more _ _ c.loop-j.j _ (omega arith) (c.in_ok-next.ensures.agrees c.loop-j.j (agree_as _ _ _ _ c.deref.ensures.value c.loop-j.invariant))

pub returns-then-adds_few : goal.returns-then-adds_few
returns-then-adds_few g c = record {
  level = c.loop-j.j;
  is_level = c.loop-j.invariant;
  is_next = c.in_ok-next.ensures.agrees c.loop-j.j (agree_as _ _ _ _ c.deref.ensures.value c.loop-j.invariant);
}

pub returns : goal.returns
returns g c = record {
  level = c.loop-j.j;
  is_level = c.loop-j.invariant;
  is_next = c.in_ok-next-2.ensures.agrees c.loop-j.j (agree_as _ _ _ _ c.deref-2.ensures.value c.loop-j.invariant);
}
