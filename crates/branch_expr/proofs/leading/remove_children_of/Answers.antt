use Rattle.std.proofs.Common.{◌∙◌}
use Rattle.branch_expr.proofs.Taken.{spared_more}
use Rattle.branch_expr.proofs.leading.remove_children_of.Goals as goal

pub loop-i-preserved : goal.loop-i-preserved
loop-i-preserved g c = record {
  size = c.remove_children.ensures.size ∙ c.loop-i.invariant.size;
  so_far = spared_more (g.G.Digraph.edge c.args.g.now) c.args.set.now.members c.loop-i.set.members c.remove_children.new.set.members c.args.nodes.now c.loop-i.i c.loop-i-test.true
      c.loop-i.invariant.so_far c.remove_children.ensures.members;
}
