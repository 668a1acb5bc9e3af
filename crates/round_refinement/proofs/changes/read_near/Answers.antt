use Rattle.std.proofs.Common.{subst}
use Rattle.round_refinement.proofs.ChangeLaws.{Reads, reads_more, reads_all}
use Rattle.round_refinement.proofs.changes.read_near.Goals as goal

pub walk-preserved : goal.walk-preserved
walk-preserved c =
    reads_more c.args.near.now c.args.n c.in-Some.i c.item.result c.walk.around.items _ c.older-next.result
    (subst (Reads c.args.near.now c.args.n c.walk.around.items) c.in-Some.is c.walk.invariant) c.item.ensures c.in_ok-push_if_near.ensures c.older-next.ensures

pub returns : goal.returns
returns c = reads_all c.args.near.now c.args.n c.walk.around.items (subst (Reads c.args.near.now c.args.n c.walk.around.items) c.in_default.is c.walk.invariant)
