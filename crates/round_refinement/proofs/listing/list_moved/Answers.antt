use Rattle.std.proofs.Common.{get_or, subst}
use Rattle.round_refinement.specs.Listing.{ListsNode}
use Rattle.round_refinement.proofs.ListingLaws.{moved_one}
use Rattle.round_refinement.proofs.listing.list_moved.Goals as goal

pub loop-n-preserved : goal.loop-n-preserved
loop-n-preserved c =
    moved_one c.args.block.now c.args.moved.now c.loop-n.n-index 0 c.args.lists.now c.loop-n.lists c.list_node.new.lists c.loop-n-test.true c.loop-n.invariant
    (subst (λ o. ListsNode o (get_or c.args.moved.now c.loop-n.n-index 0) c.loop-n.lists c.list_node.new.lists) c.block_of.ensures c.in_ok-list_node.ensures)
