use Rattle.std.proofs.Common.{◌∙◌, arith}
use Rattle.graph_spec.proofs.MemberLaws.{has_more, has_at}
use Rattle.block_splitting.proofs.Moves.{moved_more}
use Rattle.block_splitting.proofs.moving.move_nodes.Goals as goal

pub bounds-group-n : goal.bounds-group-n
bounds-group-n c = c.requires.can.below _ (has_at c.args.nodes.now c.loop-n.n-index 0 c.loop-n-test.true)

pub loop-n-preserved : goal.loop-n-preserved
loop-n-preserved c = record {
  capacity = c.move_one.ensures.capacity ∙ c.loop-n.invariant.capacity;
  len = (let a = c.move_one.ensures.len in let b = c.loop-n.invariant.len in omega (arith, a, b));
  labels = c.move_one.ensures.labels ∙ c.loop-n.invariant.labels;
  moved =
      moved_more _ _ _ _ _ _ _ _ _ c.loop-n.invariant.moved (λ m. has_more c.args.nodes.now c.loop-n.n-index 0 m c.loop-n-test.true) c.move_one.ensures.nodes
      c.move_one.ensures.moved;
}
