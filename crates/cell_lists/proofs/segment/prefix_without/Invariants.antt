use Rattle.std.proofs.Common.{◌≡◌, ◌≤◌, ◌-◌, false, length, take}
use Rattle.graph_spec.specs.Members.{has}
use Rattle.cell_lists.proofs.segment.prefix_without.Given as goal

abbrev pub invariant-loop-front : goal.invariant-loop-front
invariant-loop-front l = record { within : l.front ≤ length l.list; without : has (take l.front l.list) l.n ≡ false }

abbrev pub decreases-loop-front : goal.decreases-loop-front
decreases-loop-front l = length l.list - l.front
