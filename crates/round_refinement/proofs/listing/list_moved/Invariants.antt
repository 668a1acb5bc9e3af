use Rattle.std.proofs.Common.{take}
use Rattle.round_refinement.specs.Listing.{ListsMoved}
use Rattle.round_refinement.proofs.listing.list_moved.Given as goal

abbrev pub invariant-loop-n : goal.invariant-loop-n
invariant-loop-n l = ListsMoved l.block (take l.n-index l.moved) l.initial.lists l.lists
