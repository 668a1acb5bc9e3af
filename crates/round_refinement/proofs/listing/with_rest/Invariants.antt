use Rattle.round_refinement.specs.Listing.{IsWidened}
use Rattle.round_refinement.proofs.listing.with_rest.Given as goal

abbrev pub invariant-loop-n : goal.invariant-loop-n
invariant-loop-n l = IsWidened l.block l.active l.all.items
