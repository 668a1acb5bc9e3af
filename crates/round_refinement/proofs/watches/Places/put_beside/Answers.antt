use Rattle.round_refinement.proofs.WatchLaws.{beside_none, beside_more}
use Rattle.round_refinement.proofs.watches.Places.put_beside.Goals as goal

pub loop-n-init : goal.loop-n-init
loop-n-init c = beside_none c.args.watched.now c.args.side c.args.block c.args.q c.args.self.now

pub loop-n-preserved : goal.loop-n-preserved
loop-n-preserved c =
    beside_more c.args.watched.now c.args.nodes.now c.loop-n.n-index 0 c.args.side c.args.block c.args.q c.args.self.now c.loop-n.self c.put_if.new.self c.loop-n-test.true c.loop-n.invariant c.in_ok-put_if.ensures
