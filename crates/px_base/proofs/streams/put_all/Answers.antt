use Rattle.std.proofs.Common.{arith}
use Rattle.std.proofs.lemmas.Grind.{common_steps}
use Rattle.px_base.proofs.WrittenPrefixes.{put_more}
use Rattle.px_base.proofs.streams.put_all.Goals as goal

pub loop-rest-preserved : goal.loop-rest-preserved
loop-rest-preserved g c = put_more c.loop-rest.invariant _ _ _ _ c.in_ok-count.ensures.bytes c.in_ok-count.ensures.cause.kept (grind (arith, common_steps))
