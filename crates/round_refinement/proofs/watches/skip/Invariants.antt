use Rattle.hash_index.specs.Items.{count_to}
use Rattle.round_refinement.proofs.WatchLaws.{IsSkipping}
use Rattle.round_refinement.proofs.watches.skip.Given as goal

abbrev pub invariant-walk : goal.invariant-walk
invariant-walk l = IsSkipping l.nodes l.block l.b l.k l.fn.head l.next

abbrev pub decreases-walk : goal.decreases-walk
decreases-walk l = count_to l.next
