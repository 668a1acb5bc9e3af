use Rattle.std.proofs.Common.{arith}
use Rattle.round_refinement.proofs.ActiveLaws.{nodes_same}
use Rattle.round_refinement.proofs.active.all_nodes.Goals as goal

pub returns-clause-all : goal.returns-clause-all
returns-clause-all c = nodes_same _ _ _ _ _ (let t = c.loop-n-test.false in omega (arith, t)) c.loop-n.invariant c.sort_dedup.ensures.same
