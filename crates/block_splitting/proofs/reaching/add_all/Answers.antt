use Rattle.std.proofs.Common.{arith}
use Rattle.graph_spec.proofs.MemberLaws.{has_at}
use Rattle.block_splitting.proofs.reaching.add_all.Goals as goal

pub add-requires : goal.add-requires
add-requires c =
    let b = c.requires.below _ (has_at c.args.nodes.now c.loop-n.n-index 0 c.loop-n-test.true) in
    let size = c.loop-n.invariant.size in
    omega (arith, b, size)
