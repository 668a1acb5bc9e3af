use Rattle.std.proofs.Common.{◌+◌, ◌≤◌, length}
use Rattle.one_index.proofs.tests.put_members.Given as goal

abbrev pub invariant-loop-b : goal.invariant-loop-b
invariant-loop-b g l = length l.members ≤ l.blocks.reserved.nodes + l.b-index
