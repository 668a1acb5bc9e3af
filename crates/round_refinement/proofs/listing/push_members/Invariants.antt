use Rattle.hash_index.specs.Items.{count_to}
use Rattle.round_refinement.proofs.ListingLaws.{Gathers}
use Rattle.round_refinement.proofs.listing.push_members.Given as goal

abbrev pub invariant-walk : goal.invariant-walk
invariant-walk l = Gathers l.block l.lists l.b l.initial.all.items l.all.items l.next

abbrev pub decreases-walk : goal.decreases-walk
decreases-walk l = count_to l.next
