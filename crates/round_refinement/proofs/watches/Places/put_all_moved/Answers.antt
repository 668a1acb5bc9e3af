use Rattle.round_refinement.proofs.WatchLaws.{moved_none, moved_more}
use Rattle.round_refinement.proofs.watches.Places.put_all_moved.Goals as goal

pub loop-q-init : goal.loop-q-init
loop-q-init g c = moved_none (g.G.Digraph.edge c.args.g.now) c.args.block.now c.args.watched.now c.args.self.now

pub loop-q-preserved : goal.loop-q-preserved
loop-q-preserved g c =
    moved_more (g.G.Digraph.edge c.args.g.now) c.args.block.now c.args.watched.now c.args.moved.now c.loop-q.q-index 0 c.args.self.now c.loop-q.self c.put_moved.new.self c.loop-q-test.true
    c.loop-q.invariant c.in_ok-put_moved.ensures
