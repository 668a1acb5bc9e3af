use Rattle.std.proofs.Common.{rules}
use Rattle.coarsest_partition.proofs.OrderLaws.{push_none}
use Rattle.coarsest_partition.proofs.ordered.none_numbered.Goals as goal

pub places-preserved : goal.places-preserved
places-preserved c = record { none = rw c.in_ok-push.ensures.items (push_none _ c.places.invariant.none); long = search rules }
