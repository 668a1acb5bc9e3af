use Rattle.round_refinement.proofs.ListingLaws.{ListedBelow}
use Rattle.round_refinement.proofs.listing.list_all.Given as goal

abbrev pub invariant-loop-n : goal.invariant-loop-n
invariant-loop-n l = ListedBelow l.block l.n l.lists
