use Rattle.hash_index.specs.Items.{count_to}
use Rattle.round_refinement.proofs.ChangeLaws.{Reads}
use Rattle.round_refinement.proofs.changes.read_near.Given as goal

abbrev pub invariant-walk : goal.invariant-walk
invariant-walk l = Reads l.near l.n l.around.items l.next

abbrev pub decreases-walk : goal.decreases-walk
decreases-walk l = count_to l.next
