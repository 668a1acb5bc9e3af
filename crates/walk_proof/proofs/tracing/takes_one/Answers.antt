use Rattle.std.proofs.Common.{get_or}
use Rattle.state_sets.proofs.Lists.{has_at}
use Rattle.walk_proof.proofs.tracing.takes_one.Goals as goal

pub takes_in-requires-clause-source : goal.takes_in-requires-clause-source
takes_in-requires-clause-source g c = c.requires.sources (get_or c.args.sources.now c.loop-i.i 0) (has_at c.args.sources.now c.loop-i.i c.loop-i-test.true)
