use Rattle.round_refinement.proofs.ListingLaws.{widened_more, widened_same}
use Rattle.round_refinement.proofs.listing.with_rest.Goals as goal

pub loop-n-preserved : goal.loop-n-preserved
loop-n-preserved c =
    widened_more c.args.block.now c.args.active.now c.loop-n.all.items c.push_rest.new.all.items c.loop-n.invariant c.in_ok-push_rest.ensures

pub returns-clause-widened : goal.returns-clause-widened
returns-clause-widened c =
    widened_same c.args.block.now c.args.active.now c.loop-n.all.items c.sort_dedup.new.numbers.items c.loop-n.invariant c.sort_dedup.ensures.same
