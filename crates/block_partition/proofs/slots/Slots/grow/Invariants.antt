use Rattle.std.proofs.Common.{◌≡◌, ◌-◌, length}
use Rattle.block_partition.specs.Tables.{grown}
use Rattle.block_partition.proofs.slots.Slots.grow.Given as goal

abbrev pub invariant-loop-self : goal.invariant-loop-self
invariant-loop-self l = (l.self.capacity ≡ l.fn.self.capacity) × (grown l.self.places l.len ≡ grown l.fn.self.places l.len)

abbrev pub decreases-loop-self : goal.decreases-loop-self
decreases-loop-self l = l.len - length l.self.places
