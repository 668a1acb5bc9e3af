use Rattle.std.proofs.Common.{◌≡◌}
use Rattle.std.proofs.Math.ListN.{replicate}
use Rattle.quotient.proofs.Pairs.{none_list}
use Rattle.quotient.proofs.block_neighbours.BlockNeighbours.with_counts.Given as goal

abbrev pub invariant-loop-count : goal.invariant-loop-count
invariant-loop-count l = l.lists.lists ≡ replicate l.count-index none_list
