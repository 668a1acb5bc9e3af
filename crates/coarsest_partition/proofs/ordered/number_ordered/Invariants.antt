use Rattle.std.proofs.Common.{◌≡◌, length, vec_len}
use Rattle.coarsest_partition.specs.Ordered.{IsOrdered}
use Rattle.coarsest_partition.proofs.ordered.number_ordered.Given as goal

abbrev pub invariant-nodes : goal.invariant-nodes
invariant-nodes l = record {
  ordered : IsOrdered l.view l.numbers.keys l.numbers.block.items;
  long : vec_len l.numbers.block ≡ length l.view.allocated;
}
