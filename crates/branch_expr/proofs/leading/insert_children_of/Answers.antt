use Rattle.std.proofs.Common.{◌∙◌}
use Rattle.branch_expr.proofs.Taken.{led_more}
use Rattle.branch_expr.proofs.leading.insert_children_of.Goals as goal

pub loop-i-preserved : goal.loop-i-preserved
loop-i-preserved g c = record {
  size = c.insert_children.ensures.size ∙ c.loop-i.invariant.size;
  so_far = led_more (g.G.Digraph.edge c.args.g.now) c.args.set.now.members c.loop-i.set.members c.insert_children.new.set.members c.args.nodes.now c.loop-i.i c.loop-i-test.true
      c.loop-i.invariant.so_far c.insert_children.ensures.members;
}
