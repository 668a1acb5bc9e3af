use Rattle.std.proofs.Common.{get_or, subst}
use Rattle.round_refinement.specs.Watches.{PutsOne}
use Rattle.round_refinement.proofs.WatchLaws.{nodes_none, nodes_more}
use Rattle.round_refinement.proofs.watches.Places.put_nodes.Goals as goal

pub loop-p-init : goal.loop-p-init
loop-p-init c = nodes_none c.args.n c.args.side c.args.block.now c.args.self.now

pub loop-p-preserved : goal.loop-p-preserved
loop-p-preserved c =
    nodes_more c.args.n c.args.side c.args.block.now c.args.nodes.now c.loop-p.p-index 0 c.args.self.now c.loop-p.self c.put_in.new.self c.loop-p-test.true c.loop-p.invariant
    (subst (λ o. PutsOne c.args.n c.args.side o (get_or c.args.nodes.now c.loop-p.p-index 0) c.loop-p.self c.put_in.new.self) c.block_of.ensures c.in_ok-put_in.ensures)
