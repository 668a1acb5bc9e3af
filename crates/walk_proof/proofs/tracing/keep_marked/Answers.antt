use Rattle.std.proofs.Common.{get_or}
use Rattle.state_sets.proofs.Lists.{has_at}
use Rattle.walk_proof.proofs.tracing.keep_marked.Goals as goal

pub is_marked-requires : goal.is_marked-requires
is_marked-requires c = c.requires (get_or c.args.listed.now c.loop-i.i 0) (has_at c.args.listed.now c.loop-i.i c.loop-i-test.true)
