use Rattle.std.proofs.Common.{arith}
use Rattle.graph_spec.proofs.MemberLaws.{has_more, has_at}
use Rattle.block_splitting.proofs.Grouped.{grouped_more}
use Rattle.block_splitting.proofs.splitter.group_touched.Goals as goal

pub loop-n-preserved : goal.loop-n-preserved
loop-n-preserved c = record {
  long = c.loop-n.invariant.long;
  grouped =
      let w = c.in_ok-k.ensures.ok in
      let b = c.requires.ready.below _ (has_at c.args.nodes.now c.loop-n.n-index 0 c.loop-n-test.true) in
      grouped_more _ _ _ _ _ _ _ _ w.0 c.loop-n.invariant.grouped (λ m. has_more c.args.nodes.now c.loop-n.n-index 0 m c.loop-n-test.true)
      (let long = c.loop-n.invariant.long in let ok = c.loop-n.group.ok in omega (arith, b, long, ok)) w.1 c.in_ok-k.ensures.distinct w.2;
}
