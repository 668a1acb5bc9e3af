use Rattle.std.proofs.Common.{arith, ap, option_map}
use Rattle.bisim_levels.specs.SidedKeys.{side_mark, marked}
use Rattle.bisim_spec.proofs.WrittenKeys.{blocks_more}
use Rattle.bisim_levels.proofs.keys.push_marks.Goals as goal

pub loop-n-preserved : goal.loop-n-preserved
loop-n-preserved g c = λ f gives.
    let fits = c.type_inv.nodes c.loop-n.n-index in
    blocks_more (marked c.args.side f) c.args.nodes.now _ _ _ _ 0 _ c.loop-n-test.true (c.loop-n.invariant f gives)
    (ap (option_map (side_mark c.args.side)) (gives _ _ (omega (arith, fits)) c.block_of.ensures)) c.in_ok-push_mark.ensures
