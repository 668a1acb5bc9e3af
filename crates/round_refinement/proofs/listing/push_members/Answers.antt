use Rattle.std.proofs.Common.{subst}
use Rattle.round_refinement.proofs.ListingLaws.{Gathers, gathers_more, gathers_all}
use Rattle.round_refinement.proofs.listing.push_members.Goals as goal

pub walk-preserved : goal.walk-preserved
walk-preserved c =
    gathers_more c.args.block.now c.args.lists.now c.args.b c.in-Some.i c.item.result c.args.all.now.items c.walk.all.items c.push_if.new.all.items c.older-next.result
    (subst (Gathers c.args.block.now c.args.lists.now c.args.b c.args.all.now.items c.walk.all.items) c.in-Some.is c.walk.invariant)
    c.item.ensures c.in_ok-push_if.ensures c.older-next.ensures

pub returns : goal.returns
returns c =
    gathers_all c.args.block.now c.args.lists.now c.args.b c.args.all.now.items c.walk.all.items c.requires
    (subst (Gathers c.args.block.now c.args.lists.now c.args.b c.args.all.now.items c.walk.all.items) c.in_default.is c.walk.invariant)
