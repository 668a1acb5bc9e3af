use Rattle.std.proofs.Common.{arith}
use Rattle.bisim_spec.proofs.WrittenKeys.{blocks_more}
use Rattle.round_refinement.proofs.keys.push_blocks.Goals as goal

pub loop-n-preserved : goal.loop-n-preserved
loop-n-preserved g c = λ f gives.
    let fits = c.type_inv.nodes c.loop-n.n-index in
    blocks_more f c.args.nodes.now _ _ _ _ 0 _ c.loop-n-test.true (c.loop-n.invariant f gives) (gives _ _ (omega (arith, fits)) c.block_of.ensures) c.in_ok-push_block.ensures
